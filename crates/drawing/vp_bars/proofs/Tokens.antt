-- Data of Code 128 token by token, and the values that they give one after another.
use Rattle.std.proofs.Common.{◌≡◌, ℕ, ◌+◌, ◌*◌, ◌<◌, List, [], length, get_or, drop, Result, ap, ◌∙◌, arith}
use Rattle.std.proofs.lemmas.List.{drop_more}
use Rattle.vp_dots.specs.declared.fault.Why.{Why}
use Rattle.vp_bars.specs.CodeSets.{onto, placed}

pub onto_none : (r : Result (List ℕ) Why) → onto [] r ≡ r
onto_none r = grind arith

-- one more value of the sum
pub placed_more : (vs : List ℕ) (i sum place start : ℕ) → i < length vs → start + placed 1 vs ≡ sum + placed place (drop i vs)
    → start + placed 1 vs ≡ (sum + place * get_or vs i 0) + placed (place + 1) (drop (i + 1) vs)
placed_more vs i sum place start h e = e ∙ ap (λ xs. sum + placed place xs) (drop_more vs i 0 h) ∙ omega arith
