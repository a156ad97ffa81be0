use Rattle.std.proofs.Common.{ℕ, ◌<◌, refl, sym, ap, ◌∙◌, arith}
use Rattle.vp_qr.proofs.ShapeLines.{in_alignment, alignment_row_is, alignment_row_far}
use Rattle.vp_qr.proofs.shapes.alignment_row.Goals as goal

pub returns-in-0 : goal.returns-in-0
returns-in-0 c = λ (j : ℕ) (h : j < 64). alignment_row_is 0 0x15 refl j h ∙ ap (λ n. in_alignment n j) (sym c.in-0.is)

pub returns-in-1 : goal.returns-in-1
returns-in-1 c = λ (j : ℕ) (h : j < 64). alignment_row_is 1 0x11 refl j h ∙ ap (λ n. in_alignment n j) (sym c.in-1.is)

pub returns-in_default : goal.returns-in_default
returns-in_default c = grind (arith, alignment_row_far)
