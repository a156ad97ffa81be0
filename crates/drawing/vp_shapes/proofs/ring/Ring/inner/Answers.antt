use Rattle.std.proofs.Common.{◌*◌, arith}
use Rattle.std.proofs.lemmas.Bool.Decides.{nat_tests}
use Rattle.std.proofs.lemmas.Nat.{mul-lt}
use Rattle.vp_shapes.specs.Ellipses.{square, from_middle}
use Rattle.vp_shapes.specs.Sides.{amid}
use Rattle.vp_shapes.proofs.Edges.{inner_row, is_there, no_inner_row}
use Rattle.vp_shapes.proofs.ring.Ring.inner.Goals as goal

pub returns-then-down-w : goal.returns-then-down-w
returns-then-down-w c = λ x l.
    let e = no_inner_row (square (from_middle c.from-width.result x * c.saturating_sub-h.result)) (c.from-4.result * c.saturating_sub-w.result) (c.saturating_sub-w.result * c.saturating_sub-h.result) c.if-down-w.true in
    let k = c.from_middle.ensures.middle in
    grind (arith, nat_tests)

pub overflow_sub-w : goal.overflow_sub-w
overflow_sub-w c = let l = mul-lt _ _ _ _ c.if-down-w.false c.if-down-w.false in omega (arith, l)

pub overflow_sub-w-2 : goal.overflow_sub-w-2
overflow_sub-w-2 c = let l = mul-lt _ _ _ _ c.if-down-w.false c.if-down-w.false in omega (arith, l)

pub returns : goal.returns
returns c = λ x l.
    let e = c.reach.ensures (from_middle c.from-width.result x) in
    let f = c.beyond.ensures x (grind arith) in
    let k = c.from_middle.ensures.middle in
    let g = inner_row c.saturating_sub-w.result c.saturating_sub-h.result x (from_middle c.from-width.result x) c.from-4.result c.reach.result c.from-width.result c.beyond.result c.if-down-w.false e (grind arith) in
    let m = is_there c.args.self.width c.args.self.height c.args.self.thickness (c.from-4.result * c.saturating_sub-w.result) (amid c.args.self.width c.beyond.result x) (grind arith) in
    grind arith
