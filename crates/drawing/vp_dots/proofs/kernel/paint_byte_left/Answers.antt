use Rattle.std.proofs.Common.{◌∙◌, ap, get_or, ◌+◌}
use Rattle.vp_dots.specs.Dots.{bit, dot}
use Rattle.vp_dots.specs.Painting.{paint}
use Rattle.vp_dots.proofs.Paints.{painted_byte_at}
use Rattle.vp_dots.proofs.Windows.{left_bits}
use Rattle.vp_dots.proofs.kernel.paint_byte_left.Goals as goal

pub returns-then-i-row : goal.returns-then-i-row
returns-then-i-row c = painted_byte_at _ (λ d. dot c.args.source.now (d + c.args.s)) c.args.i _ c.args.row.now c.if-i-row.true (λ k h.
    c.painted_byte.ensures k h ∙ ap (λ b. paint c.args.op b (bit (get_or c.args.row.now c.args.i 0) k)) (c.window-ink.ensures k h ∙ rw (c.byte_at.ensures, c.byte_at-then-i-row.ensures) (left_bits c.args.source.now c.args.s c.args.i k c.requires h)))
