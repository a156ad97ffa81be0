use Rattle.std.proofs.Common.{◌∙◌, ap, arith, get_or, true}
use Rattle.std.proofs.lemmas.Bool.Decides.{nat_tests}
use Rattle.vp_dots.specs.Dots.{bit}
use Rattle.vp_dots.specs.Painting.{paint}
use Rattle.vp_dots.proofs.Paints.{painted_then, painted_byte_at}
use Rattle.vp_dots.proofs.Spans.{bit_of_all}
use Rattle.vp_dots.proofs.span.paint_bytes.Goals as goal

pub loop-i-preserved : goal.loop-i-preserved
loop-i-preserved c = painted_then _ _ _ _ _ _ _ c.loop-i.invariant
    (painted_byte_at _ (λ d. true) c.loop-i.i _ c.loop-i.row (omega arith) (λ k h. c.painted_byte.ensures k h ∙ ap (λ b. paint c.args.op b (bit (get_or c.loop-i.row c.loop-i.i 0) k)) (bit_of_all k h)))
    (λ d l. grind (arith, nat_tests)) (λ d l. grind (arith, nat_tests))
