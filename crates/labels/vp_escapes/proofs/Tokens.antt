-- Data read token by token.
use Rattle.std.proofs.Common.{◌≡◌, ◌≢◌, ◌≤◌, ◌∙◌, ℕ, zero, suc, true, false, List, [], ◌∷◌, length, drop, refl, sym, ap, inl, inr, arith, length-drop, Bool, ◌&&◌, eqb}
use Rattle.std.proofs.lemmas.Bool.{ne_eqb, eq-eqb}
use Rattle.std.proofs.lemmas.Bool.Decides.{eqb_tells}
use Rattle.std.proofs.lemmas.List.Elements.{All-head, All-tail}
use Rattle.std.specs.List.{All}
use Rattle.std.specs.Prelude.{if◌then◌else◌}
use Rattle.vp_escapes.specs.Escapes.{token, read, is_gs1, unescaped}
use Rattle.vp_escapes.specs.Laws.{escaped}

-- a token is at least as long as its byte
pub length_read : (sign n : ℕ) (xs : List ℕ) → length (read sign n xs) ≤ length xs
length_read sign n [] = omega arith
length_read sign zero (x ∷ xs) = omega (arith, length_read sign (token sign x xs).behind xs)
length_read sign (suc n) (x ∷ xs) = omega (arith, length_read sign n xs)

length_from : (sign : ℕ) (xs : List ℕ) (gs1 : Bool) → length (read sign 0 (if gs1 then drop 2 xs else xs)) ≤ length xs
length_from sign xs true = omega (arith, length_read sign 0 (drop 2 xs), length-drop 2 xs)
length_from sign xs false = length_read sign 0 xs

pub length_unescaped : (sign : ℕ) (xs : List ℕ) → length (unescaped sign xs) ≤ length xs
length_unescaped sign xs = length_from sign xs (is_gs1 sign xs)

-- data without the sign
pub read_no_sign : (sign : ℕ) (xs : List ℕ) → All (λ c. c ≢ sign) xs → read sign 0 xs ≡ xs
read_no_sign sign [] all = refl
read_no_sign sign (x ∷ xs) all =
    rw (ne_eqb x sign (All-head (λ c. c ≢ sign) x xs all)) (ap (λ l. x ∷ l) (read_no_sign sign xs (All-tail (λ c. c ≢ sign) x xs all)))

gs1_other : (sign x : ℕ) (xs : List ℕ) → eqb x sign ≡ false → is_gs1 sign (x ∷ xs) ≡ false
gs1_other sign x [] e = refl
gs1_other sign x (y ∷ xs) e = rw e refl

pub gs1_no_sign : (sign : ℕ) (xs : List ℕ) → All (λ c. c ≢ sign) xs → is_gs1 sign xs ≡ false
gs1_no_sign sign [] all = refl
gs1_no_sign sign (x ∷ xs) all = gs1_other sign x xs (ne_eqb x sign (All-head (λ c. c ≢ sign) x xs all))

pub unescaped_plain : (sign : ℕ) (xs : List ℕ) → is_gs1 sign xs ≡ false → unescaped sign xs ≡ read sign 0 xs
unescaped_plain sign xs e = rw e refl

-- data with each sign doubled
pub read_doubled : (sign : ℕ) (xs : List ℕ) → read sign 0 (escaped sign xs) ≡ xs
read_doubled sign [] = refl
read_doubled sign (x ∷ xs) = elim (eqb_tells x sign) [
  | inl (is, same) ↦ rw (is, eq-eqb sign sign refl) (ap (λ n. n ∷ read sign 0 (escaped sign xs)) (sym same) ∙ ap (λ l. x ∷ l) (read_doubled sign xs))
  | inr (is, other) ↦ rw (is, is) (ap (λ l. x ∷ l) (read_doubled sign xs))
]

never : (b : Bool) → (b && false) ≡ false
never true = refl
never false = refl

-- behind a byte that isn't the sign, or the sign twice, there is no FNC1
pub gs1_doubled : (sign : ℕ) (xs : List ℕ) → is_gs1 sign (escaped sign xs) ≡ false
gs1_doubled sign [] = refl
gs1_doubled sign (x ∷ xs) = elim (eqb_tells x sign) [
  | inl (is, same) ↦ rw (is, eq-eqb sign sign refl) (never (eqb sign 49))
  | inr (is, other) ↦ rw is (gs1_other sign x (escaped sign xs) is)
]
