use Rattle.std.proofs.Common.{rules, ◌-◌, ◌*◌, refl, arith, ap, ◌∙◌, subst, length}
use Rattle.vp_format.specs.declared.rows.Coding.TheVariants.{RunLength}
use Rattle.vp_format.specs.Pictures.{is_unreadable}
use Rattle.vp_format.specs.Cursors.{symbols_at, SmallSymbol}
use Rattle.vp_format.proofs.Reached.{reached_at, run_before, run_done, white_reached, run_reached, end_reached, again_refused, refused_shown, ended_decoded, again_decoded}
use Rattle.vp_format.proofs.row.read_on.Goals as goal

pub returns-in_default-clause-read : goal.returns-in_default-clause-read
returns-in_default-clause-read c = λ s r.
    let d = c.next_symbol.new in let e = c.in_default.ensures in let p = c.fill.new.places in
    let white = white_reached _ _ s.at d.places p d.codes.bytes.now d.x d.codes.at e.place (e.end refl) (e.reached _ s.at (c.loop-symbol.invariant.reached _ s.at r)) c.fill.ensures.filled in
    ended_decoded _ p c.args.row.now _ d.codes (2 * length c.args.row.now) s c.ended.result 0 0 d.codes.at c.ended.ensures (omega arith) (e.advanced.bytes ∙ c.loop-symbol.invariant.advanced.bytes)
    e.advanced.reading (omega arith) refl (rw c.loop-symbol.invariant.row at c.pack_filled.ensures.packed) (run_before _ _ s.at _ _ 0 _ _ white)

pub returns-then-to-width-clause-read : goal.returns-then-to-width-clause-read
returns-then-to-width-clause-read c = λ s r.
    let w = 2 * length c.args.row.now in let all = symbols_at RunLength c.args.codes.now.bytes.now s in let d = c.next_symbol.new in let e = c.in-Some.ensures in let p = c.fill-in-Digits.new.places in
    let small = subst SmallSymbol c.in-Digits.is e.some.2 in
    let next = rw c.in-Digits.is at (e.reached all s.at (c.loop-symbol.invariant.reached all s.at r)) in
    let run = run_reached w all s.at d.places p d.x c.end_of_run-to.result c.in-Digits.n c.in-Digits.v next.0 _ _ (omega (arith, e.some.0, small.0)) (omega arith) small.1 next.1.1 c.fill-in-Digits.ensures.filled in
    ended_decoded _ p c.args.row.now _ d.codes w s c.ended-then-to-width.result _ c.in-Digits.v _ c.ended-then-to-width.ensures (omega arith) (e.advanced.bytes ∙ c.loop-symbol.invariant.advanced.bytes) e.advanced.reading small.1
    (omega (arith, next.1.0)) (rw c.loop-symbol.invariant.row at c.pack_filled-then-to-width.ensures.packed) (reached_at w all s.at _ _ w _ _ _ _ c.if-to-width.true refl refl run)

pub returns-in-ToEnd-clause-read : goal.returns-in-ToEnd-clause-read
returns-in-ToEnd-clause-read c = λ s r.
    let w = 2 * length c.args.row.now in let all = symbols_at RunLength c.args.codes.now.bytes.now s in let d = c.next_symbol.new in let e = c.in-Some.ensures in let p = c.fill-in-ToEnd.new.places in
    let next = rw c.in-ToEnd.is at (e.reached all s.at (c.loop-symbol.invariant.reached all s.at r)) in
    let filled = end_reached w all s.at d.places p d.x c.in-ToEnd.v next.0 _ _ e.some.0 (subst SmallSymbol c.in-ToEnd.is e.some.2) next.1.1 c.fill-in-ToEnd.ensures.filled in
    ended_decoded _ p c.args.row.now _ d.codes w s c.ended-in-ToEnd.result 0 0 _ c.ended-in-ToEnd.ensures (omega arith) (e.advanced.bytes ∙ c.loop-symbol.invariant.advanced.bytes) e.advanced.reading (omega arith)
    (omega (arith, next.1.0)) (rw c.loop-symbol.invariant.row at c.pack_filled-in-ToEnd.ensures.packed) (run_before w all s.at _ w 0 _ _ filled)

pub returns-in-Again-clause-read : goal.returns-in-Again-clause-read
returns-in-Again-clause-read c = λ s r.
    let w = 2 * length c.args.row.now in let all = symbols_at RunLength c.args.codes.now.bytes.now s in let d = c.next_symbol.new in let e = c.in-Some.ensures in
    let next = rw c.in-Again.is at (e.reached all s.at (c.loop-symbol.invariant.reached all s.at r)) in
    rw c.loop-symbol.invariant.row (again_decoded _ d.places c.args.row.now d.codes w s c.repeated.result d.x next.0 _ c.repeated.ensures (omega arith) (e.advanced.bytes ∙ c.loop-symbol.invariant.advanced.bytes)
    e.advanced.reading (omega (arith, next.1.0)) (omega arith) next.1.1)

pub returns-in-Again-2-clause-read : goal.returns-in-Again-2-clause-read
returns-in-Again-2-clause-read c = λ s r.
    let w = 2 * length c.args.row.now in let all = symbols_at RunLength c.args.codes.now.bytes.now s in let d = c.next_symbol.new in let e = c.in-Some.ensures in
    let next = rw c.in-Again.is at (e.reached all s.at (c.loop-symbol.invariant.reached all s.at r)) in
    ap is_unreadable (next.1.1.ahead (w - 1) (omega (arith, e.some.0)) ∙ again_refused w d.x next.0 _ (omega arith) e.some.0)

pub returns-in-Refused-clause-read : goal.returns-in-Refused-clause-read
returns-in-Refused-clause-read c = λ s r. grind (arith, refused_shown, rw c.in-Refused.is at (c.in-Some.ensures.reached _ s.at (c.loop-symbol.invariant.reached (symbols_at RunLength c.args.codes.now.bytes.now s) s.at r)))

pub loop-symbol-preserved : goal.loop-symbol-preserved
loop-symbol-preserved c = record {
  advanced = search rules;
  len = search rules;
  row = c.loop-symbol.invariant.row;
  inside = omega arith;
  reached = λ all start r.
      let w = 2 * length c.args.row.now in let d = c.next_symbol.new in let e = c.in-Some.ensures in
      let small = subst SmallSymbol c.in-Digits.is e.some.2 in
      let next = rw c.in-Digits.is at (e.reached all start (c.loop-symbol.invariant.reached all start r)) in
      let run = run_reached w all start d.places c.fill-in-Digits.new.places d.x c.end_of_run-to.result c.in-Digits.n c.in-Digits.v next.0 _ _ (omega (arith, e.some.0, small.0)) (omega arith) small.1 next.1.1 c.fill-in-Digits.ensures.filled in
      reached_at w all start _ _ _ _ _ _ _ refl refl (omega (arith, next.1.0)) (run_done w all start _ c.end_of_run-to.result _ _ _ _ (omega arith) run);
}
