-- Where a module of the symbol stands in the matrix, and rows of modules.
use Rattle.std.proofs.Common.{◌≡◌, ℕ, zero, suc, ◌||◌, Bool, true, false, cond, eqb, List, [], length, replicate, get_or, set, get_or-set_same, get_or-set_other, refl, sym, ap, ◌∙◌, inl, inr, ◌+◌, ◌-◌, ◌*◌, ◌/◌, ◌%◌, ◌<◌, ◌≤◌, subst, arith}
use Rattle.std.proofs.lemmas.Nat.{mul-add-lt}
use Rattle.std.specs.Int.{bit_at}
use Rattle.std.proofs.lemmas.Nat.Bits.{bit_at-zero}
use Rattle.std.proofs.lemmas.Bool.{cases_lt}
use Rattle.vp_dots.specs.Dots.{bit, dot}
use Rattle.vp_dots.specs.Painting.{Painted}
use Rattle.vp_dots.specs.declared.Op.TheVariants.{Black}
use Rattle.vp_dots.proofs.Rows.{dot_past}
use Rattle.std.proofs.Math.Nat.{mul_comm, div-lt_iff_lt-mul}

-- row r of n regions of h data rows and two more: one of its data rows is one of the matrix
pub region_within : (r all h k : ℕ) → all ≡ all / (h + 2) * (h + 2) → r < all → k < h → r / (h + 2) * h + k < all / (h + 2) * h
region_within r all h k whole lt small =
    let some : 0 < h + 2 = omega arith in
    let region : r / (h + 2) < all / (h + 2) = (div-lt_iff_lt-mul {k = h + 2} {x = r} {y = all / (h + 2)} some).1 (subst (λ (n : ℕ). r < n) whole lt) in
    let turned : h * (all / (h + 2)) ≡ all / (h + 2) * h = mul_comm h (all / (h + 2)) in
    subst (λ (n : ℕ). r / (h + 2) * h + k < n) turned (mul-add-lt (r / (h + 2)) h k (all / (h + 2)) region small)

-- rows of modules
zeros : (n k : ℕ) → ◌≡◌ {A = ℕ} (get_or (replicate n 0) k 0) 0
zeros zero k = refl
zeros (suc n) zero = refl
zeros (suc n) (suc k) = zeros n k

pub white_row : (n x : ℕ) → dot (replicate n 0) x ≡ false
unfolding dot bit
white_row n x = ap (λ m. eqb (bit_at m (7 - x % 8)) 1) (zeros n (x / 8)) ∙ ap (λ m. eqb m 1) (bit_at-zero (7 - x % 8))

-- one module more is dark
pub dot_more : (column : ℕ) (old new : List ℕ) → length old ≡ 18 → column < 144 → Painted Black (λ d. eqb d column) old new → (j : ℕ) → dot new j ≡ (eqb j column || dot old j)
dot_more column old new long lt p j = elim (cases_lt j 144) [
  | inl inside ↦ p.dots_are j (omega (arith, long)) ∙ either (eqb j column) (dot old j)
  | inr past ↦ dot_past new j (omega (arith, long, p.length_is)) ∙ sym (ap (λ b. eqb j column || b) (dot_past old j (omega (arith, long))) ∙ apart j column (omega arith))
]
  where
    either : (b c : Bool) → cond b true c ≡ (b || c)
    either true c = refl
    either false c = refl

    apart : (j column : ℕ) → column < j → (eqb j column || false) ≡ false
    apart j column h = grind arith

pub made_dark : (column : ℕ) (old new : List ℕ) (f : ℕ → Bool) → length old ≡ 18 → column < 144 → Painted Black (λ d. eqb d column) old new → true ≡ f column
    → ((j : ℕ) → j < column → dot old j ≡ f j) → (j : ℕ) → j < column + 1 → dot new j ≡ f j
made_dark column old new f long lt p here before j h = elim (cases_lt j column) [
  | inl less ↦ dot_more column old new long lt p j ∙ other j column (dot old j) less ∙ before j less
  | inr le ↦ (let e : j ≡ column = omega arith in rw e (dot_more column old new long lt p column ∙ same column (dot old column) ∙ here))
]
  where
    other : (j column : ℕ) (b : Bool) → j < column → (eqb j column || b) ≡ b
    other j column b h = grind arith

    same : (column : ℕ) (b : Bool) → (eqb column column || b) ≡ true
    same column b = grind arith

pub made_light : (column : ℕ) (old : List ℕ) (f : ℕ → Bool) → dot old column ≡ false → false ≡ f column → ((j : ℕ) → j < column → dot old j ≡ f j) → (j : ℕ) → j < column + 1 → dot old j ≡ f j
made_light column old f none here before j h = elim (cases_lt j column) [
  | inl less ↦ before j less
  | inr le ↦ (let e : j ≡ column = omega arith in rw e (none ∙ here))
]

pub white_more : (column : ℕ) (old new : List ℕ) → length old ≡ 18 → column < 144 → Painted Black (λ d. eqb d column) old new
    → ((j : ℕ) → column ≤ j → dot old j ≡ false) → (j : ℕ) → column + 1 ≤ j → dot new j ≡ false
white_more column old new long lt p white j h = dot_more column old new long lt p j ∙ apart j column (dot old j) (omega arith) (white j (omega arith))
  where
    apart : (j column : ℕ) (b : Bool) → column < j → b ≡ false → (eqb j column || b) ≡ false
    apart j column b h e = grind arith

-- one row more
pub row_made : (f : ℕ → ℕ → Bool) (rows : List (List ℕ)) (row n : ℕ) (new : List ℕ) → row < length rows → ((j : ℕ) → j < n → dot new j ≡ f row j)
    → ((i j : ℕ) → i < row → j < n → dot (get_or rows i []) j ≡ f i j) → (i j : ℕ) → i < row + 1 → j < n → dot (get_or (set rows row new) i []) j ≡ f i j
row_made f rows row n new lt here before i j hi hj = elim (cases_lt i row) [
  | inl less ↦ (let ne : row ≡ i → ⊥ = λ e. absurd (omega arith) in ap (λ l. dot l j) (grind (arith, get_or-set_other)) ∙ before i j less hj)
  | inr le ↦ (let e : i ≡ row = omega arith in rw e (ap (λ l. dot l j) (get_or-set_same rows row new [] lt) ∙ here j hj))
]
