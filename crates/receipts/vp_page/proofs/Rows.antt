-- Rows of dots.
use Rattle.std.proofs.Common.{zero, suc, take, ◌≡◌, ℕ, ◌+◌, ◌-◌, ◌/◌, ◌%◌, ◌<◌, ◌≤◌, Bool, false, eqb, ◌||◌, ap, arith, List, [], ◌∷◌, length, get_or, refl}
use Rattle.std.proofs.lemmas.List.{get_or_past}
use Rattle.std.proofs.lemmas.Nat.Bits.{bit_at-zero}
use Rattle.vp_dots.specs.Dots.{bit, dot, dots}
use Rattle.vp_dots.specs.Images.{packed, row_from, row_of}
use Rattle.vp_dots.specs.Places.{RowsPainted}
use Rattle.vp_dots.specs.declared.Op.{Op}
use Rattle.vp_dots.specs.declared.Op.TheVariants.{Black}
use Rattle.vp_dots.proofs.Paints.{painted_same}

-- past the row there is no dot
pub dot_past : (row : List ℕ) (d : ℕ) → length row ≤ d / 8 → dot row d ≡ false
unfolding dot bit
dot_past row d h = rw (get_or_past row (d / 8) 0 h) (ap (λ n. eqb n 1) (bit_at-zero (7 - d % 8)))

-- the same ink in other words
pub rows_same : (high : ℕ) (op : Op) (f g : ℕ → ℕ → Bool) (a b : List (List ℕ)) → ((x k : ℕ) → k < high → x < dots (get_or a k []) → f x k ≡ g x k) → RowsPainted high op f a b → RowsPainted high op g a b
rows_same high op f g a b e p = record { rows_are = λ k h. painted_same op (λ x. f x k) (λ x. g x k) _ _ (λ x l. e x k h l) (p.rows_are k h) }

-- ink on ink
pub rows_then : (high : ℕ) (f g h : ℕ → ℕ → Bool) (a b c : List (List ℕ)) → ((x k : ℕ) → h x k ≡ (f x k || g x k)) → RowsPainted high Black f a b → RowsPainted high Black g b c → RowsPainted high Black h a c
rows_then high f g h a b c e p q = grind arith

take-row_from : (n m : ℕ) (f : ℕ → Bool) (at : ℕ) → n ≤ m → take n (row_from m f at) ≡ row_from n f at
take-row_from zero m f at h = refl
take-row_from (suc n) zero f at h = absurd (omega arith)
take-row_from (suc n) (suc m) f at h = ap (λ r. packed 8 f at ∷ r) (take-row_from n m f (at + 8) (omega arith))

-- the first bytes of a row
pub take-row_of : (n m : ℕ) (f : ℕ → Bool) → n ≤ m → take n (row_of m f) ≡ row_of n f
take-row_of n m f h = take-row_from n m f 0 h
