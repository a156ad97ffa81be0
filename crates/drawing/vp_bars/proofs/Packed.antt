-- Packed data, front by front.
use Rattle.std.proofs.Common.{◌≡◌, ◌≢◌, ℕ, ◌≤◌, List, [], ◌∷◌, true, false, length, drop, get_or, refl, arith, Result}
use Rattle.std.specs.Char.{is_ascii_digit}
use Rattle.std.proofs.lemmas.Bool.{and_parts}
use Rattle.vp_dots.specs.declared.fault.Why.{Why}
use Rattle.vp_bars.specs.declared.code_128.CodeSet.{CodeSet}
use Rattle.vp_bars.specs.declared.code_128.CodeSet.TheVariants.{A, B, C}
use Rattle.vp_bars.specs.CodeSets.{value_in, onto, plain}
use Rattle.vp_bars.specs.Invocations.{pair_of}
use Rattle.vp_bars.specs.Packing.{two_digits, begins_pair, begins_run, packed}

pub record IsPair (bytes : List ℕ) : Type 0 where
  pub two : 2 ≤ length bytes
  pub first : is_ascii_digit (get_or bytes 0 0) ≡ true
  pub second : is_ascii_digit (get_or bytes 1 0) ≡ true

pub pair_digits : (bytes : List ℕ) → begins_pair bytes ≡ true → IsPair bytes
pair_digits bytes h1 = grind (arith, and_parts)

pub packed_pair : (bytes : List ℕ) → begins_pair bytes ≡ true → packed C bytes ≡ onto (pair_of (get_or bytes 0 0) (get_or bytes 1 0) ∷ []) (packed C (drop 2 bytes))
packed_pair [] e = cc
packed_pair (a ∷ []) e = cc
packed_pair (a ∷ b ∷ bytes) e = rw e refl

pub packed_change : (bytes : List ℕ) → 1 ≤ length bytes → begins_pair bytes ≡ false → packed C bytes ≡ onto (100 ∷ []) (plain (value_in B (get_or bytes 0 0)) (packed B (drop 1 bytes)))
packed_change [] h e = absurd (omega arith)
packed_change (a ∷ []) h e = refl
packed_change (a ∷ b ∷ bytes) h e = rw e refl

three : (x y z : ℕ) (r : Result (List ℕ) Why) → onto (x ∷ y ∷ z ∷ []) r ≡ onto (x ∷ []) (onto (y ∷ []) (onto (z ∷ []) r))
three x y z r = grind arith

-- the selector of C and two pairs, in A as in B
run : (set : CodeSet) → set ≢ C → (bytes : List ℕ) → begins_run bytes ≡ true → packed set bytes ≡ onto (99 ∷ []) (
    onto (pair_of (get_or bytes 0 0) (get_or bytes 1 0) ∷ []) (onto (pair_of (get_or (drop 2 bytes) 0 0) (get_or (drop 2 bytes) 1 0) ∷ []) (packed C (drop 2 (drop 2 bytes)))))
run C n bytes e = absurd (n refl)
run set n [] e = cc
run set n (a ∷ []) e = cc
run set n (a ∷ b ∷ []) e = let p : (two_digits a b ≡ true) × (false ≡ true) = and_parts _ _ e in let q = p.1 in cc
run set n (a ∷ b ∷ c ∷ []) e = let p : (two_digits a b ≡ true) × (false ≡ true) = and_parts _ _ e in let q = p.1 in cc
run A n (a ∷ b ∷ c ∷ d ∷ bytes) e = rw e (three 99 (pair_of a b) (pair_of c d) (packed C bytes))
run B n (a ∷ b ∷ c ∷ d ∷ bytes) e = rw e (three 99 (pair_of a b) (pair_of c d) (packed C bytes))

pub packed_run : (set : CodeSet) (bytes rest behind : List ℕ) → set ≢ C → begins_run bytes ≡ true → rest ≡ drop 2 bytes → behind ≡ drop 2 rest
    → packed set bytes ≡ onto (99 ∷ []) (onto (pair_of (get_or bytes 0 0) (get_or bytes 1 0) ∷ []) (onto (pair_of (get_or rest 0 0) (get_or rest 1 0) ∷ []) (packed C behind)))
packed_run set bytes rest behind n e p q = rw (q, p) (run set n bytes e)

pub packed_byte : (set : CodeSet) → set ≢ C → (bytes : List ℕ) → 1 ≤ length bytes → begins_run bytes ≡ false
    → packed set bytes ≡ plain (value_in B (get_or bytes 0 0)) (packed B (drop 1 bytes))
packed_byte C n bytes h e = absurd (n refl)
packed_byte set n [] h e = absurd (omega arith)
packed_byte A n (a ∷ []) h e = refl
packed_byte A n (a ∷ b ∷ []) h e = refl
packed_byte A n (a ∷ b ∷ c ∷ []) h e = refl
packed_byte A n (a ∷ b ∷ c ∷ d ∷ bytes) h e = rw e refl
packed_byte B n (a ∷ []) h e = refl
packed_byte B n (a ∷ b ∷ []) h e = refl
packed_byte B n (a ∷ b ∷ c ∷ []) h e = refl
packed_byte B n (a ∷ b ∷ c ∷ d ∷ bytes) h e = rw e refl
