use Rattle.std.proofs.Common.{◌∙◌, ap, arith, get_or, ◌+◌}
use Rattle.vp_dots.specs.Dots.{bit, dot}
use Rattle.vp_dots.specs.Painting.{paint}
use Rattle.vp_dots.proofs.Rows.{dot_past}
use Rattle.vp_dots.proofs.Paints.{painted_none, bytes_init, bytes_more, bytes_last}
use Rattle.vp_dots.proofs.Windows.{left_bits}
use Rattle.vp_dots.proofs.kernel.paint_skewed_left.Goals as goal

pub loop-i-init : goal.loop-i-init
loop-i-init c = bytes_init _ (λ d. dot c.args.source.now (d + c.args.s)) _

pub loop-i-preserved : goal.loop-i-preserved
loop-i-preserved c = bytes_more _ (λ d. dot c.args.source.now (d + c.args.s)) _ _ _ _ (omega arith) c.loop-i.invariant (λ k h.
    c.painted_byte.ensures k h ∙ ap (λ b. paint c.args.op b (bit (get_or c.loop-i.row c.loop-i.i 0) k)) (c.window.ensures k h ∙ left_bits c.args.source.now c.args.s c.loop-i.i k c.requires h))

pub returns-then-n-eq0 : goal.returns-then-n-eq0
returns-then-n-eq0 c = painted_none _ _ _ (λ d l. dot_past c.args.source.now (d + c.args.s) (omega arith))

pub returns : goal.returns
returns c = bytes_last _ (λ d. dot c.args.source.now (d + c.args.s)) c.loop-i.i _ _ _ _ (omega arith) c.loop-i.invariant c.paint_byte_left.ensures (λ d l m. dot_past c.args.source.now (d + c.args.s) (omega arith))
