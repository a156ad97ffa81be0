-- The lanes of two vectors that differ, as bits.
use Rattle.std.proofs.Common.{inl, inr, ◌≡◌, ℕ, ◌-◌, ◌/◌, ◌%◌, ◌^◌, ◌<◌, ◌≤◌, Bool, true, false, not, cond, eqb, List, map, length, get_or, w32, sym, ap, ◌∙◌, arith}
use lib.Lanes.{zip2, mask_l, top}
use Rattle.std.proofs.lemmas.Bool.{ne_eqb, cases_eq}
use Rattle.std.proofs.lemmas.Simd.{tops_compared, mask_l-lt, mask_l-mod, bit_mask_l, length-zip2, get_or-zip2}
use Rattle.vp_dots.specs.Dots.{bit}

-- which lanes of two vectors differ
abbrev pub unlike : List ℕ → List ℕ → ℕ
unlike xs ys = mask_l (map (top 31) (zip2 (λ a b. cond (not (eqb a b)) (2 ^ 32 - 1) 0) xs ys)) % 2 ^ 64

module _ (n : ℕ) (few : n ≤ 64) (xs ys : List ℕ) (l : length xs ≡ n) (m : length ys ≡ n) where
  are_unlike : List Bool
  are_unlike = zip2 (λ a b. not (eqb a b)) xs ys

  unlike_is : (unlike xs ys ≡ mask_l are_unlike) × (length are_unlike ≡ n)
  unfolding are_unlike
  unlike_is =
      let long : length are_unlike ≡ n = length-zip2 (λ (a b : ℕ). not (eqb a b)) xs ys (l ∙ sym m) ∙ l in
      (ap (λ ms. mask_l ms % 2 ^ 64) (tops_compared w32 (λ (a b : ℕ). not (eqb a b)) xs ys) ∙ mask_l-mod are_unlike 64 (omega (arith, long)), long)

  pub unlike_few : unlike xs ys < 2 ^ n
  unlike_few = let long = mask_l-lt are_unlike in rw unlike_is.0 (let z : mask_l are_unlike < 2 ^ n = rw unlike_is.1 at long in z)

  not_unlike : (x y : ℕ) → eqb (cond (not (eqb x y)) 1 0) 1 ≡ false → x ≡ y
  not_unlike x y z = elim (cases_eq x y) [
    | inl e ↦ e
    | inr o ↦ absurd (let d : eqb x y ≡ false = ne_eqb x y o in let f : true ≡ false = rw d at z in cc)
  ]

  pub unlike_not : (s : ℕ) → s < n → bit (unlike xs ys) s ≡ false → get_or xs s 0 ≡ get_or ys s 0
  unfolding bit are_unlike
  unlike_not s k z =
      let b : get_or are_unlike s false ≡ not (eqb (get_or xs s 0) (get_or ys s 0)) = get_or-zip2 (λ (a b : ℕ). not (eqb a b)) xs ys s 0 0 false (omega (arith, l)) (omega (arith, m)) in
      not_unlike (get_or xs s 0) (get_or ys s 0) (ap (λ t. eqb (cond t 1 0) 1) (sym b) ∙ ap (λ v. eqb v 1) (sym (bit_mask_l are_unlike s)) ∙ ap (λ v. eqb (v / 2 ^ s % 2) 1) (sym unlike_is.0) ∙ z)
