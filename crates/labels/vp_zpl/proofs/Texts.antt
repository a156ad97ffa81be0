-- The data of ^FD behind ^FH, by one byte more.
use Rattle.std.proofs.Common.{◌≡◌, ℕ, ◌==◌, if◌then◌else◌, Option, List, [], ◌∷◌, ◌++◌, refl, arith}
use Rattle.vp_zpl.specs.Spelling.{known, undecided, decoded, spelled, or_itself, or_later, is_hex, hex_of, hex_pair}

-- what a byte makes known, and what is left undecided, behind this that was
abbrev pub out : ℕ → List ℕ → ℕ → List ℕ
out x [] c = if c == x then [] else c ∷ []
out x (a ∷ []) c = if is_hex (hex_of c) then [] else a ∷ (if c == x then [] else c ∷ [])
out x (a ∷ b ∷ more) c = or_itself (hex_pair (hex_of b) (hex_of c)) [] a (b ∷ (if c == x then [] else c ∷ []))

abbrev pub left_by : ℕ → List ℕ → ℕ → List ℕ
left_by x [] c = if c == x then c ∷ [] else []
left_by x (a ∷ []) c = if is_hex (hex_of c) then a ∷ c ∷ [] else (if c == x then c ∷ [] else [])
left_by x (a ∷ b ∷ more) c = or_later (hex_pair (hex_of b) (hex_of c)) [] (if c == x then c ∷ [] else [])

-- one byte more of the data, with an indicator
pub record Step (x : ℕ) (bytes : List ℕ) (c : ℕ) : Type 0 where
  pub makes : known x (bytes ++ c ∷ []) ≡ known x bytes ++ out x (undecided x bytes) c
  pub leaves : undecided x (bytes ++ c ∷ []) ≡ left_by x (undecided x bytes) c

two : (x a b c : ℕ) → Step x (a ∷ b ∷ []) c
unfolding spelled
two x a b c = grind arith

pub step : (x : ℕ) (bytes : List ℕ) (c : ℕ) → Step x bytes c
step x [] c = record { makes = refl; leaves = refl }
step x (a ∷ []) c = grind arith
step x (a ∷ b ∷ []) c = two x a b c
step x (a ∷ b ∷ d ∷ more) c = grind (arith, step x more c, step x (b ∷ d ∷ more) c)

whole_by : (o : Option ℕ) (a : ℕ) (d1 d2 k1 k2 u1 u2 : List ℕ) → d1 ≡ k1 ++ u1 → d2 ≡ k2 ++ u2 → or_itself o d1 a d2 ≡ or_itself o k1 a k2 ++ or_later o u1 u2
whole_by o a d1 d2 k1 k2 u1 u2 e f = grind arith

-- at the end, what was undecided is itself
pub at_the_end : (x : ℕ) (bytes : List ℕ) → decoded x bytes ≡ known x bytes ++ undecided x bytes
at_the_end x [] = refl
at_the_end x (a ∷ []) = grind arith
at_the_end x (a ∷ b ∷ []) = grind (arith, at_the_end x (b ∷ []))
at_the_end x (a ∷ b ∷ c ∷ more) = grind (arith, whole_by, at_the_end x more, at_the_end x (b ∷ c ∷ more))
