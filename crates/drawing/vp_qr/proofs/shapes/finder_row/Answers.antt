use Rattle.std.proofs.Common.{ℕ, ◌<◌, refl, sym, ap, ◌∙◌, arith}
use Rattle.vp_qr.proofs.ShapeLines.{in_finder, finder_row_is}
use Rattle.vp_qr.proofs.shapes.finder_row.Goals as goal

pub returns-in-0 : goal.returns-in-0
returns-in-0 c = λ (j : ℕ) (h : j < 64). finder_row_is 0 0x5d refl j h ∙ ap (λ n. in_finder n j) (sym c.in-0.is)

pub returns-in-1 : goal.returns-in-1
returns-in-1 c = λ (j : ℕ) (h : j < 64). finder_row_is 1 0x5d refl j h ∙ ap (λ n. in_finder n j) (sym c.in-1.is)

pub returns-in-2 : goal.returns-in-2
returns-in-2 c = λ (j : ℕ) (h : j < 64). finder_row_is 2 0x41 refl j h ∙ ap (λ n. in_finder n j) (sym c.in-2.is)

pub returns-in-3 : goal.returns-in-3
returns-in-3 c = λ (j : ℕ) (h : j < 64). finder_row_is 3 0x7f refl j h ∙ ap (λ n. in_finder n j) (sym c.in-3.is)

pub returns-in_default : goal.returns-in_default
returns-in_default c = grind arith
