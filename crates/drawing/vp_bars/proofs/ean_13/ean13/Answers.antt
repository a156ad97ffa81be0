use Rattle.std.proofs.Common.{◌≡◌, ℕ, List, [], ◌∷◌, ◌++◌, ap, ◌∙◌, arith}
use Rattle.vp_bars.specs.Ean13.{ean13_check, with_check}
use Rattle.vp_bars.proofs.Digits.{ean13_twelve}
use Rattle.vp_bars.proofs.ean_13.ean13.Goals as goal

checked : (ds items slice all : List ℕ) (check : ℕ) → items ≡ ds → slice ≡ items → check ≡ ean13_check slice → all ≡ items ++ check ∷ [] → all ≡ with_check ds
checked ds items slice all check p q r e = e ∙ ap (λ c. items ++ c ∷ []) (r ∙ ap ean13_check q) ∙ ap with_check p

pub returns : goal.returns
returns c = grind (arith, checked, ean13_twelve)
