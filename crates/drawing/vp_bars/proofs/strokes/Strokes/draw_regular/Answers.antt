use Rattle.std.proofs.Common.{◌≡◌, ◌+◌, ◌-◌, ◌*◌, ◌^◌, ◌<◌, ◌≤◌, sym, refl, arith, length, take, drop, w64}
use Rattle.std.proofs.Math.Nat.{mul-le-mul_left}
use Rattle.std.proofs.lemmas.Int.{to_z-of_z}
use Rattle.std.specs.List.{flat_map}
use Rattle.vp_bars.specs.Widths.{next_widths, total}
use Rattle.vp_bars.proofs.Regular.{regular_total, regular_drawn, regular_between, regular_none, no_fewer}
use Rattle.vp_bars.proofs.Pieces.{none_before, none_behind, handed_within}
use Rattle.vp_bars.proofs.strokes.Strokes.draw_regular.Goals as goal
use Rattle.vp_bars.proofs.strokes.Strokes.draw_regular.Goals.{After-step-step, After-max-to}

-- all values have room
room : (c : After-step-step) → c.args.pen.x + c.step-step.result * length c.args.values.now < 2 ^ 32
room c = grind (arith, regular_total)

pub seen-from-requires-clause-fits : goal.seen-from-requires-clause-fits
seen-from-requires-clause-fits c = omega (arith, room (goal.at.seen-from-requires-clause-fits c).After-step-step)

pub overflow_cast-first : goal.overflow_cast-first
overflow_cast-first c =
    let more = no_fewer c.step-step.result (length c.args.values.now) (omega arith) in
    omega (arith, room (goal.at.overflow_cast-first c).After-step-step, more, c.seen-from.ensures.first)

pub overflow_mul-first : goal.overflow_mul-first
overflow_mul-first c =
    omega (arith, room (goal.at.overflow_mul-first c).After-step-step, mul-le-mul_left c.step-step.result c.seen-from.ensures.first)

pub overflow_add-first : goal.overflow_add-first
overflow_add-first c =
    omega (arith, room (goal.at.overflow_add-first c).After-step-step, mul-le-mul_left c.step-step.result c.seen-from.ensures.first)

-- those that are seen
seen_together : (c : After-max-to) → c.step-step.result * c.seen-from.result.0
    + total (flat_map (next_widths c.args.self.now.symbology c.args.self.now.narrow c.args.self.now.wide) (take (c.max-to.result - c.seen-from.result.0) (drop c.seen-from.result.0 c.args.values.now)))
    ≡ c.step-step.result * c.max-to.result
seen_together c = grind (arith, regular_between)

pub draw_next-pieces-requires : goal.draw_next-pieces-requires
draw_next-pieces-requires c =
    let seen = seen_together (goal.at.draw_next-pieces-requires c).After-max-to in
    let within = mul-le-mul_left c.step-step.result (let h : c.max-to.result ≤ length c.args.values.now = omega (arith, c.max-to.ensures, c.seen-from.ensures.first, c.seen-from.ensures.last) in h) in
    omega (arith, room (goal.at.draw_next-pieces-requires c).After-step-step, seen, within)

pub overflow_cast-end : goal.overflow_cast-end
overflow_cast-end c =
    let more = no_fewer c.step-step.result (length c.args.values.now) (omega arith) in
    omega (arith, room (goal.at.overflow_cast-end c).After-step-step, more)

pub overflow_mul-end : goal.overflow_mul-end
overflow_mul-end c = omega (arith, room (goal.at.overflow_mul-end c).After-step-step)

pub overflow_add-end : goal.overflow_add-end
overflow_add-end c = omega (arith, room (goal.at.overflow_add-end c).After-step-step)

pub returns-then-step-eq0-clause-strokes : goal.returns-then-step-eq0-clause-strokes
returns-then-step-eq0-clause-strokes c =
    let s = c.args.self.now in
    regular_none _ _ s.symbology s.narrow s.wide c.args.values.now _ _ (omega (arith, c.step-step.ensures.step)) c.requires.regular

pub returns-clause-strokes : goal.returns-clause-strokes
returns-clause-strokes c =
    let s = c.args.self.now in
    let k = c.step-step.result in
    let to : c.seen-from.result.1 ≤ c.max-to.result = omega (arith, c.max-to.ensures) in
    let more = mul-le-mul_left k to in
    rw (sym (to_z-of_z w64 c.args.at c.ranges.at))
    (regular_drawn _ _ s.symbology s.narrow s.wide k c.args.values.now c.step-step.ensures.step c.requires.regular c.seen-from.result.0 c.max-to.result _ _ c.args.pen _ c.draw_next-pieces.result.0 _
    (omega (arith, c.max-to.ensures)) (omega (arith, c.max-to.ensures, c.seen-from.ensures.first, c.seen-from.ensures.last))
    c.seen-from.ensures.before (λ u d g h q. c.seen-from.ensures.behind u d (omega (arith, more)) h q)
    refl refl refl refl c.draw_next-pieces.ensures.strokes c.draw_next-pieces.auto.row)

pub returns-clause-pieces : goal.returns-clause-pieces
returns-clause-pieces c =
    let k = c.step-step.result in
    let pen = c.args.pen in
    let from = c.seen-from.result.0 in
    let to : c.seen-from.result.1 ≤ c.max-to.result = omega (arith, c.max-to.ensures) in
    let more = mul-le-mul_left k to in
    let ends : c.draw_next-pieces.result.0.x ≡ pen.x + k * c.max-to.result = omega (arith, c.draw_next-pieces.ensures.strokes.ends, seen_together (goal.at.returns-clause-pieces c).After-max-to) in
    let all = mul-le-mul_left k (let h : c.max-to.result ≤ length c.args.values.now = omega (arith, c.max-to.ensures, c.seen-from.ensures.first, c.seen-from.ensures.last) in h) in
    rw (sym (to_z-of_z w64 c.args.at c.ranges.at))
    (handed_within _ _ pen.x (pen.x + k * from) c.draw_next-pieces.result.0.x (pen.x + k * length c.args.values.now) c.draw_next-pieces.result.1 (omega arith) (omega (arith, ends, all))
    (none_before _ _ pen.x (pen.x + k * from) c.seen-from.ensures.before)
    (none_behind _ _ c.draw_next-pieces.result.0.x (pen.x + k * length c.args.values.now) (λ u d g h q. c.seen-from.ensures.behind u d (omega (arith, more, ends)) h q))
    c.draw_next-pieces.ensures.pieces)
