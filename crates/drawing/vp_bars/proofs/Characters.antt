-- The values of characters, one after another.
use Rattle.std.proofs.Common.{◌≡◌, ℕ, ◌+◌, ◌<◌, List, [], ◌∷◌, ◌++◌, length, get_or, drop, Some, None, arith}
use Rattle.std.proofs.lemmas.Grind.{common_steps}
use Rattle.std.specs.Option.{option_map}
use Rattle.vp_bars.specs.Code39.{value_of, values_of}

-- one more character
pub values_more : (chars : List ℕ) (i v : ℕ) (vs : List ℕ) → i < length chars → values_of chars ≡ option_map (λ ws. vs ++ ws) (values_of (drop i chars))
    → value_of (get_or chars i 0) ≡ Some v → values_of chars ≡ option_map (λ ws. (vs ++ v ∷ []) ++ ws) (values_of (drop (i + 1) chars))
values_more chars i v vs h e f = grind (arith, common_steps)

-- a byte that is no character
pub values_stop : (chars : List ℕ) (i : ℕ) (vs : List ℕ) → i < length chars → values_of chars ≡ option_map (λ ws. vs ++ ws) (values_of (drop i chars))
    → value_of (get_or chars i 0) ≡ None → values_of chars ≡ None
values_stop chars i vs h e f = grind (arith, common_steps)
