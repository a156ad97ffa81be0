use Rattle.std.proofs.Common.{◌*◌, arith}
use Rattle.std.proofs.lemmas.Bool.Decides.{nat_tests}
use Rattle.vp_shapes.specs.Ellipses.{square}
use Rattle.vp_shapes.specs.RoundCorners.{beyond}
use Rattle.vp_shapes.proofs.Edges.{below_root, both_amid, sum_within}
use Rattle.vp_shapes.proofs.rounded.Rounded.inner_edge.Goals as goal

pub returns : goal.returns
returns c = λ x l.
    let width = c.args.self.width in
    let b = beyond c.radius-radius.result width x in
    let e = c.cut.ensures width x l in
    let f = below_root c.isqrt.result _ b c.isqrt.ensures.square_le c.isqrt.ensures.next_square_gt in
    let g = sum_within (square b) (c.from-v.result * c.from-v.result) c.saturating_sub-most.result (grind arith) in
    let h = both_amid width x c.cut.result c.from-thickness.result l in
    grind (arith, nat_tests)
