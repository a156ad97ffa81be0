-- The bits of words as modules.
use Rattle.std.proofs.Common.{◌≡◌, ℕ, zero, suc, ◌+◌, ◌-◌, ◌*◌, ◌/◌, ◌%◌, ◌^◌, ◌<◌, ◌&&◌, ◌||◌, not, Bool, true, false, eqb, List, [], ◌∷◌, get_or, ap, ◌∙◌, arith, bit_and, bit_or, bit_xor, w64}
use mathlib.Core.Bool.{beq}
use Rattle.std.specs.Int.{bit_at}
use Rattle.std.proofs.lemmas.Nat.{shr-shr, xor_lt}
use Rattle.std.proofs.lemmas.Nat.Bits.{bit_at_and, bit_at_or, bit_at_xor, bit_at_not, bit_at-suc, bit_at-zero, bit_at_cat_low}
use Rattle.vp_qr.specs.Penalty.{is_set, same}

pub beq_same : (a b : Bool) → beq a b ≡ true → a ≡ b
beq_same a b e = grind arith

pub is_set_and : (a b j : ℕ) → is_set (bit_and a b) j ≡ (is_set a j && is_set b j)
is_set_and a b j = grind (arith, bit_at_and)

pub is_set_or : (a b j : ℕ) → is_set (bit_or a b) j ≡ (is_set a j || is_set b j)
is_set_or a b j = grind (arith, bit_at_or)

pub is_set_xor : (a b j : ℕ) → is_set (bit_xor a b) j ≡ not (same (is_set a j) (is_set b j))
is_set_xor a b j = grind (arith, bit_at_xor)

pub is_set_not : (a j : ℕ) → a < 2 ^ 64 → j < 64 → is_set (2 ^ 64 - 1 - a) j ≡ not (is_set a j)
is_set_not a j ha hj = grind (arith, bit_at_not w64 a j ha hj)

pub is_set_zero : (j : ℕ) → is_set 0 j ≡ false
is_set_zero j = ap (λ n. eqb n 1) (bit_at-zero j)

pub is_set_shr : (a k j : ℕ) → is_set (a / 2 ^ k) j ≡ is_set a (j + k)
is_set_shr a k j = grind (arith, shr-shr)

-- the bits of a word that is moved up by one
fits : (a j : ℕ) → j < 64 → bit_at (a * 2 % 2 ^ 64) j ≡ bit_at (a * 2) j
fits a j h = grind (arith, bit_at_cat_low (a * 2 / 2 ^ 64) 64 (a * 2 % 2 ^ 64) j h)

halved : (a : ℕ) → a * 2 / 2 ≡ a
halved a = omega arith

pub is_set_up : (a j : ℕ) → j + 1 < 64 → is_set (a * 2 % 2 ^ 64) (suc j) ≡ is_set a j
is_set_up a j h = ap (λ n. eqb n 1) (fits a (suc j) (omega arith) ∙ bit_at-suc (a * 2) j ∙ ap (λ n. bit_at n j) (halved a))

pub is_set_first : (a : ℕ) → is_set (a * 2 % 2 ^ 64) 0 ≡ false
is_set_first a = grind arith

-- a word's module from its parts'
module _ (j : ℕ) (hj : j < 64) where
  pub both : (x y : ℕ) (p q : Bool) → is_set x j ≡ p → is_set y j ≡ q → is_set (bit_and x y) j ≡ (p && q)
  both x y p q hx hy = is_set_and x y j ∙ ap (λ b. b && is_set y j) hx ∙ ap (λ b. p && b) hy

  pub either : (x y : ℕ) (p q : Bool) → is_set x j ≡ p → is_set y j ≡ q → is_set (bit_or x y) j ≡ (p || q)
  either x y p q hx hy = is_set_or x y j ∙ ap (λ b. b || is_set y j) hx ∙ ap (λ b. p || b) hy

  pub other : (x : ℕ) (p : Bool) → x < 2 ^ 64 → is_set x j ≡ p → is_set (2 ^ 64 - 1 - x) j ≡ not p
  other x p h hx = is_set_not x j h hj ∙ ap not hx

  pub equal : (x y : ℕ) → x < 2 ^ 64 → y < 2 ^ 64 → is_set (2 ^ 64 - 1 - bit_xor x y) j ≡ same (is_set x j) (is_set y j)
  equal x y hx hy = grind (arith, is_set_not (bit_xor x y) j, xor_lt 64 x y hx hy, is_set_xor x y j)

-- a line without its first k modules, for k from `first` on
abbrev shifts : ℕ → ℕ → ℕ → List ℕ
shifts line first zero = []
shifts line first (suc n) = line / 2 ^ first ∷ shifts line (first + 1) n

shift_at : (line first n i : ℕ) → i < n → get_or (shifts line first n) i 0 ≡ line / 2 ^ (first + i)
shift_at line first zero i h = absurd (omega arith)
shift_at line first (suc n) zero h = grind arith
shift_at line first (suc n) (suc i) h = grind (arith, shift_at line (first + 1) n i)

pub shifted_at : (line k j : ℕ) → k < 11 → is_set (get_or (line ∷ shifts line 1 10) k 0) j ≡ is_set line (j + k)
shifted_at line zero j h = grind arith
shifted_at line (suc i) j h = grind (arith, shift_at line 1 10 i, is_set_shr line (suc i) j)
