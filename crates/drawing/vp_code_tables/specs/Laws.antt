-- Words of the laws.
use Rattle.std.specs.Prelude.{ℕ, suc, ◌≡◌, ◌⊎◌, List, [], ◌∷◌, ◌++◌, Some, length, take}
use Rattle.vp_code_tables.specs.declared.unit.Decoded.{Decoded}
use Rattle.vp_code_tables.specs.Utf8.{Whole, Begins, Neither, part_of}

-- so many of these bytes, from the first on, are a unit in UTF-8: a well-formed sequence; the beginning of
-- one that ends here or doesn't go on with the next byte; or one byte that begins none (D93b)
pub data IsUnit (bytes : List ℕ) (n : ℕ) : Type 0 where
  IsWhole : part_of (take n bytes) ≡ Whole → IsUnit bytes n
  IsCut : part_of (take n bytes) ≡ Begins → (n ≡ length bytes) ⊎ (part_of (take (suc n) bytes) ≡ Neither)
      → IsUnit bytes n
  IsNone : n ≡ 1 → part_of (take 1 bytes) ≡ Neither → IsUnit bytes n

-- characters one behind the other, each as it is written
unfoldable pub text : (ℕ → List ℕ) → List ℕ → List ℕ
text write [] = []
text write (value ∷ values) = write value ++ text write values

-- and as units
unfoldable pub written : (ℕ → List ℕ) → List ℕ → List Decoded
written write [] = []
written write (value ∷ values) =
    record { character = Some value; len = length (write value) } ∷ written write values
