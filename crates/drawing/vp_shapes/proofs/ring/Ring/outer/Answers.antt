use Rattle.std.proofs.Common.{arith}
use Rattle.vp_shapes.specs.Ellipses.{from_middle}
use Rattle.vp_shapes.proofs.Edges.{down_within, outer_row}
use Rattle.vp_shapes.proofs.ring.Ring.outer.Goals as goal

pub overflow_sub-w : goal.overflow_sub-w
overflow_sub-w c = down_within c.from-2.result c.from-w.result c.from-h.result (let k = c.from_middle.ensures.within in grind arith)

pub returns : goal.returns
returns c = λ x l.
    let e = c.reach.ensures (from_middle c.from-w.result x) in
    let f = c.beyond.ensures x (grind arith) in
    let k = c.from_middle.ensures.within in
    let g = outer_row c.from-w.result c.from-h.result x c.from-2.result c.reach.result c.beyond.result (grind arith) e (grind arith) in
    grind arith
