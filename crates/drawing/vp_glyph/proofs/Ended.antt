-- How many lines end above a row, and how many pieces they have.
use Rattle.std.proofs.Common.{inl, inr, ◌⊎◌, ◌≡◌, ℕ, zero, suc, ◌+◌, ◌-◌, ◌*◌, ◌/◌, ◌^◌, ◌<◌, ◌≤◌, min, List, [], ◌∷◌, length, take, drop, Option, MatchOption, Bor, refl, ap, arith}
use Rattle.std.proofs.Math.Nat.{mul-le-mul_right}
use Rattle.std.proofs.lemmas.Bool.{cases_lt, cases_eq, le-leb, lt-leb}
use Rattle.std.proofs.lemmas.List.{length-take-le}
use Rattle.vp_glyph.specs.Blocks.{BlockLayout, pieces, first, block_lines}
use Rattle.vp_glyph.specs.Above.{pieces_of, above_of, lines_above, pieces_above}

above_most : (b : BlockLayout) (n y : ℕ) → above_of b n y ≤ n
above_most b zero y = omega arith
above_most b (suc n) y = grind (arith, above_most b n y)

-- no line from the p-th on ends above the row
pub above_upto : (b : BlockLayout) (p n y : ℕ) → p ≤ n → (p ≡ n) ⊎ (y < p * b.pitch + b.h) → above_of b n y ≤ p
above_upto b p zero y m e = omega arith
above_upto b p (suc n) y m e = elim (cases_lt y (n * b.pitch + b.h)) [
  | inl l ↦ rw (lt-leb (n * b.pitch + b.h) y l) (elim (cases_eq p (suc n)) [
    | inl k ↦ (let r = above_most b n y in omega (arith, k, r))
    | inr k ↦ above_upto b p n y (omega (arith, m, k)) (elim e [ inl f ↦ inl (absurd (k f)) | inr f ↦ inr f ])
  ])
  | inr g ↦ rw (le-leb (n * b.pitch + b.h) y g) (elim e [
    | inl f ↦ omega (arith, f)
    | inr f ↦ elim (cases_lt n p) [
      | inl k ↦ omega (arith, k)
      | inr k ↦ absurd (let wide : p * b.pitch ≤ n * b.pitch = mul-le-mul_right b.pitch k in omega (arith, wide, f, g))
    ]
  ])
]

-- the p-th line ends above it
pub above_from : (b : BlockLayout) (p n y : ℕ) → p < n → p * b.pitch + b.h ≤ y → p + 1 ≤ above_of b n y
above_from b p zero y m l = absurd (omega (arith, m))
above_from b p (suc n) y m l = elim (cases_lt y (n * b.pitch + b.h)) [
  | inl k ↦ rw (lt-leb (n * b.pitch + b.h) y k) (elim (cases_eq p n) [
    | inl e ↦ absurd (let f : p * b.pitch ≡ n * b.pitch = ap (λ i. i * b.pitch) e in omega (arith, f, k, l))
    | inr o ↦ above_from b p n y (omega (arith, m, o)) l
  ])
  | inr g ↦ rw (le-leb (n * b.pitch + b.h) y g) (omega (arith, m))
]

pieces_none : (p k : ℕ) (all : List (List ℕ)) → k ≤ p → pieces_of (drop p (take k all)) ≡ 0
pieces_none zero zero all m = refl
pieces_none (suc p) zero all m = refl
pieces_none zero (suc k) all m = absurd (omega (arith, m))
pieces_none (suc p) (suc k) [] m = refl
pieces_none (suc p) (suc k) (line ∷ rest) m = pieces_none p k rest (omega (arith, m))

-- none are passed
pub pieces_begun : (p walked : ℕ) (all : List (List ℕ)) → walked + pieces_of (drop p (take p all)) ≡ walked
pieces_begun p walked all = let n = pieces_none p p all (omega arith) in omega (arith, n)

-- one line more is passed
pub pieces_more : (p k : ℕ) (all : List (List ℕ)) (line : List ℕ) (rest : List (List ℕ)) → p ≤ k → drop k all ≡ line ∷ rest
    → pieces_of (drop p (take (suc k) all)) ≡ pieces_of (drop p (take k all)) + (1 + length line)
pieces_more zero zero [] line rest m e = cc
pieces_more zero zero (x ∷ xs) line rest m e = grind arith
pieces_more (suc p) zero all line rest m e = absurd (omega (arith, m))
pieces_more p (suc k) [] line rest m e = cc
pieces_more zero (suc k) (x ∷ xs) line rest m e = let r = pieces_more 0 k xs line rest (omega arith) e in omega (arith, r)
pieces_more (suc p) (suc k) (x ∷ xs) line rest m e = pieces_more p k xs line rest (omega (arith, m)) e

-- the last line is passed
pub pieces_all : (k n : ℕ) (all : List (List ℕ)) (line : List ℕ) → drop k all ≡ line ∷ [] → k < n → take n all ≡ take (suc k) all
pieces_all k zero all line e l = absurd (omega (arith, l))
pieces_all k (suc n) [] line e l = refl
pieces_all zero (suc zero) (x ∷ xs) line e l = refl
pieces_all zero (suc (suc n)) (x ∷ xs) line e l = let f : xs ≡ [] = cc in rw f refl
pieces_all (suc k) (suc n) (x ∷ xs) line e l = ap (λ (r : List (List ℕ)). x ∷ r) (pieces_all k n xs line e (omega (arith, l)))

-- as many as end above the row are passed
pub pieces_same : (p k n : ℕ) (all : List (List ℕ)) → p ≤ k → n ≤ k → (p < k → k ≤ n) → pieces_of (drop p (take k all)) ≡ pieces_of (drop p (take n all))
pieces_same p k n all f m l = grind (arith, pieces_none)

-- the line at the front of what is left is counted
pub line_counted : (p k begun walked new cells n : ℕ) (text rest : List ℕ) (next : Option (Bor (List ℕ))) → p ≤ k → drop k (block_lines n text) ≡ block_lines n rest
    → MatchOption next (block_lines n rest ≡ take cells (first (pieces rest)) ∷ []) (λ r. block_lines n rest ≡ take cells (first (pieces rest)) ∷ block_lines n r.now) → cells ≤ length (first (pieces rest))
    → walked ≡ min (begun + pieces_of (drop p (take k (block_lines n text)))) (2 ^ 64 - 1) → new ≡ min (walked + (1 + cells)) (2 ^ 64 - 1)
    → new ≡ min (begun + pieces_of (drop p (take (k + 1) (block_lines n text)))) (2 ^ 64 - 1)
line_counted p k begun walked new cells n text rest next m e lines few before after = grind (arith, length-take-le, pieces_more)

above_more : (b : BlockLayout) (n y z : ℕ) → y ≤ z → above_of b n y ≤ above_of b n z
above_more b zero y z l = omega arith
above_more b (suc n) y z l = grind (arith, above_most, above_more b n y z l)

pieces_less : (m n : ℕ) (all : List (List ℕ)) → m ≤ n → pieces_of (take m all) ≤ pieces_of (take n all)
pieces_less zero n all l = omega arith
pieces_less (suc m) zero all l = absurd (omega (arith, l))
pieces_less (suc m) (suc n) [] l = omega arith
pieces_less (suc m) (suc n) (line ∷ rest) l = let r = pieces_less m n rest (omega (arith, l)) in omega (arith, r)

-- further down more lines end above a row
pub pieces_above_less : (b : BlockLayout) (text : List ℕ) (y z : ℕ) → y ≤ z → pieces_above b text y ≤ pieces_above b text z
pieces_above_less b text y z l = pieces_less (lines_above b y) (lines_above b z) (block_lines (b.wide / b.w) text) (above_more b (b.rows - 1) y z l)
