use Rattle.std.proofs.lemmas.Bool.Decides.{nat_tests}
-- The dots of a row, each of them twice.
use Rattle.std.proofs.Common.{◌≡◌, ℕ, ◌+◌, ◌-◌, ◌*◌, ◌/◌, ◌%◌, ◌^◌, ◌<◌, ◌≤◌, eqb, ltb, ◌&&◌, refl, ap, ◌∙◌, arith, List, [], ◌∷◌, length, replicate, get_or, set, length-set, bit_and, min}
use Rattle.std.specs.Int.{bit_at}
use Rattle.std.proofs.lemmas.Bool.{agree_below_at, lt-ltb, le-ltb}
use Rattle.std.proofs.lemmas.List.{length-replicate}
use Rattle.std.proofs.lemmas.Nat.{shr-shr}
use Rattle.std.proofs.lemmas.Nat.Bits.{bit_at_and, bit_at_ones, bit_at-lt}
use Rattle.vp_dots.specs.Dots.{bit, dot}
use Rattle.vp_dots.proofs.Rows.{dot-set, dot_past}
use Rattle.vp_page.specs.declared.line.TheConstants.{LINE_BYTES, LINE_DOTS}
use Rattle.vp_strips.proofs.Bitmaps.{dot_white}

-- the bytes of four dots, each of them twice
abbrev pub doubled_halves : List ℕ
doubled_halves = 0 ∷ 3 ∷ 12 ∷ 15 ∷ 48 ∷ 51 ∷ 60 ∷ 63 ∷ 192 ∷ 195 ∷ 204 ∷ 207 ∷ 240 ∷ 243 ∷ 252 ∷ 255 ∷ []

-- checked bit by bit
pub bit-doubled_half : (half k : ℕ) → half < 16 → k < 8 → bit (get_or doubled_halves half 0) k ≡ bit half (k / 2)
unfolding bit
bit-doubled_half half k h l =
    let q : (8 * half + k) / 8 ≡ half = omega arith in
    let r : (8 * half + k) % 8 ≡ k = omega arith in
    rw (q, r) at (agree_below_at (λ n. bit (get_or doubled_halves (n / 8) 0) (n % 8)) (λ n. bit (n / 8) (n % 8 / 2)) 128 (8 * half + k) refl (omega arith))

-- the bits of a byte's halves
bit_high : (byte k : ℕ) → bit (byte / 2 ^ 4) k ≡ bit byte (4 + k)
unfolding bit
bit_high byte k = ap (λ n. eqb (n % 2) 1) (shr-shr byte 4 k)

bit_low : (byte k : ℕ) → k < 4 → bit (bit_and byte 15) k ≡ bit byte k
unfolding bit
bit_low byte k h = ap (λ n. eqb n 1) (bit_at_and byte 15 k ∙ ap (min (bit_at byte k)) (bit_at_ones 4 k h) ∙ (let l = bit_at-lt byte k in omega arith))

-- the first i bytes are doubled, and what follows is white
pub record IsDoubled (row : List ℕ) (i : ℕ) (wide : List ℕ) : Type 0 where
  pub long : length wide ≡ LINE_BYTES
  pub dots_are : (x : ℕ) → x < LINE_DOTS → dot wide x ≡ (ltb x (16 * i) && dot row (x / 2))

pub doubled_none : (row : List ℕ) → IsDoubled row 0 (replicate LINE_BYTES 0)
doubled_none row = grind (arith, length-replicate {A = ℕ} LINE_BYTES 0, dot_white LINE_BYTES)

-- a byte written, each half of it doubled
module _ (row wide : List ℕ) (i left right : ℕ) (left_is : (k : ℕ) → k < 8 → bit left k ≡ bit (get_or row i 0 / 2 ^ 4) (k / 2)) (right_is : (k : ℕ) → k < 8 → bit right k ≡ bit (bit_and (get_or row i 0) 15) (k / 2)) where
  left_dots : (x : ℕ) → x / 8 ≡ 2 * i → bit left (7 - x % 8) ≡ dot row (x / 2)
  unfolding dot
  left_dots x e = grind (arith, bit_high)

  right_dots : (x : ℕ) → x / 8 ≡ 2 * i + 1 → bit right (7 - x % 8) ≡ dot row (x / 2)
  unfolding dot
  right_dots x e = grind (arith, bit_low)

  pub doubled_more : i < 104 → IsDoubled row i wide → IsDoubled row (i + 1) (set (set wide (2 * i) left) (2 * i + 1) right)
  doubled_more room d = grind (arith, length-set, dot-set, nat_tests, right_dots, left_dots)

-- past the row there is no dot
pub doubled_all : (row wide : List ℕ) (i n : ℕ) → n ≡ min (length row) 104 → n ≤ i → IsDoubled row i wide → (x : ℕ) → x < LINE_DOTS → dot wide x ≡ dot row (x / 2)
doubled_all row wide i n e m d x h = grind (arith, lt-ltb, le-ltb, dot_past)
