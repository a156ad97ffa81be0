-- A row of bytes is determined by its dots.
use Rattle.std.proofs.Common.{inl, inr, ◌≡◌, ℕ, zero, suc, ◌+◌, ◌-◌, ◌*◌, ◌/◌, ◌%◌, ◌^◌, ◌<◌, Bool, cond, eqb, refl, sym, ap, ◌∙◌, arith, List, length, get_or}
use Rattle.std.specs.Int.{bit_at}
use Rattle.std.proofs.Math.Nat.{pow-suc}
use Rattle.std.proofs.lemmas.Nat.Bits.{bit_at_cat_low, bit_at_cat_high}
use Rattle.std.proofs.lemmas.List.{get_or_past}
use Rattle.std.proofs.lemmas.Bool.{cases_lt}
use Rattle.vp_dots.specs.Dots.{bit, dot}
use Rattle.vp_dots.specs.Images.{packed, row_from, row_of}
use Rattle.vp_dots.proofs.Rows.{same_row}

-- a bit above n others
one_more : (b : Bool) (n m : ℕ) → cond b (2 ^ n) 0 + m ≡ cond b 1 0 * 2 ^ n + m
one_more b n m = grind arith

pub packed-lt : (n : ℕ) (f : ℕ → Bool) (at : ℕ) → packed n f at < 2 ^ n
packed-lt zero f at = omega arith
packed-lt (suc n) f at = grind (arith, pow-suc, packed-lt n f (at + 1))

bit_of_flag : (b : Bool) → bit (cond b 1 0) 0 ≡ b
unfolding bit
bit_of_flag b = grind arith

-- bit k of a packed number
pub bit-packed : (n : ℕ) (f : ℕ → Bool) (at k : ℕ) → k < n → bit (packed n f at) k ≡ f (at + (n - 1 - k))
unfolding bit
bit-packed zero f at k h = absurd (omega arith)
bit-packed (suc n) f at k h = rw (one_more (f at) n (packed n f (at + 1))) (elim (cases_lt k n) [
  | inl l ↦ ap (λ x. eqb x 1) (bit_at_cat_low (cond (f at) 1 0) n (packed n f (at + 1)) k l) ∙ bit-packed n f (at + 1) k l ∙ ap f (omega arith)
  | inr g ↦ ap (λ x. eqb x 1) (bit_at_cat_high (cond (f at) 1 0) n (packed n f (at + 1)) k (packed-lt n f (at + 1)) g)
      ∙ ap (λ x. eqb (bit_at (cond (f at) 1 0) x) 1) (let e : k - n ≡ 0 = omega arith in e) ∙ bit_of_flag (f at) ∙ ap f (omega arith)
])

pub length-row_from : (n : ℕ) (f : ℕ → Bool) (at : ℕ) → length (row_from n f at) ≡ n
length-row_from zero f at = refl
length-row_from (suc n) f at = ap suc (length-row_from n f (at + 8))

get_or-row_from : (n : ℕ) (f : ℕ → Bool) (at i : ℕ) → i < n → get_or (row_from n f at) i 0 ≡ packed 8 f (at + 8 * i)
get_or-row_from zero f at i h = absurd (omega arith)
get_or-row_from (suc n) f at zero h = ap (packed 8 f) (omega arith)
get_or-row_from (suc n) f at (suc i) h = get_or-row_from n f (at + 8) i (omega arith) ∙ ap (packed 8 f) (omega arith)

-- the dots of the bytes
pub dot-row_of : (n : ℕ) (f : ℕ → Bool) (d : ℕ) → d < 8 * n → dot (row_of n f) d ≡ f d
unfolding dot
dot-row_of n f d h = ap (λ x. bit x (7 - d % 8)) (get_or-row_from n f 0 (d / 8) (omega arith)) ∙ bit-packed 8 f (0 + 8 * (d / 8)) (7 - d % 8) (omega arith) ∙ ap f (omega arith)

pub fits-row_of : (n : ℕ) (f : ℕ → Bool) (i : ℕ) → get_or (row_of n f) i 0 < 2 ^ 8
fits-row_of n f i = grind (arith, cases_lt, get_or-row_from, get_or_past, length-row_from)

-- a row with these dots is these bytes
pub row_is : (row : List ℕ) (n : ℕ) (f : ℕ → Bool) → length row ≡ n → ((i : ℕ) → get_or row i 0 < 2 ^ 8) → ((d : ℕ) → d < 8 * n → dot row d ≡ f d) → row ≡ row_of n f
row_is row n f e p h = same_row row (row_of n f) (e ∙ sym (length-row_from n f 0)) p (fits-row_of n f) (λ d l. h d (omega arith) ∙ sym (dot-row_of n f d (omega arith)))

-- the bytes of a row hang on its dots alone
pub row_of_same : (n : ℕ) (f g : ℕ → Bool) → ((d : ℕ) → d < 8 * n → f d ≡ g d) → row_of n f ≡ row_of n g
row_of_same n f g h = row_is (row_of n f) n g (length-row_from n f 0) (fits-row_of n f) (λ d l. dot-row_of n f d l ∙ h d l)
