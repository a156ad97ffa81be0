use Rattle.std.proofs.Common.{◌∙◌, ap, arith, get_or, ◌≡◌, ◌+◌, ◌*◌, ◌-◌, ◌%◌}
use Rattle.vp_dots.specs.Dots.{bit}
use Rattle.vp_dots.specs.Painting.{paint}
use Rattle.vp_dots.proofs.Paints.{painted_byte_at}
use Rattle.vp_dots.proofs.span.paint_masked.Goals as goal

pub returns-then-i-row : goal.returns-then-i-row
returns-then-i-row c = painted_byte_at _ (λ d. bit c.args.mask (7 - d % 8)) c.args.i _ c.args.row.now c.if-i-row.true (λ k h.
    c.painted_byte.ensures k h ∙ ap (λ j. paint c.args.op (bit c.args.mask j) (bit (get_or c.args.row.now c.args.i 0) k)) (let e : k ≡ 7 - (8 * c.args.i + (7 - k)) % 8 = omega arith in e))
