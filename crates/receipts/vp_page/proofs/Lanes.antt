-- Sixteen bytes at once, and rows that are turned by them.
use Rattle.std.proofs.Common.{◌≡◌, ℕ, ◌-◌, ◌*◌, ◌/◌, ◌%◌, ◌^◌, ◌<◌, true, eqb, refl, sym, ap, ◌∙◌, arith, List, [], ◌∷◌, ◌++◌, length, get_or, map, replicate, bit_and, bit_or}
use Rattle.std.specs.Int.{reverse_bits_onto}
use lib.Lanes.{zip2}
use Rattle.std.proofs.lemmas.Simd.{get_or-zip2, length-zip2}
use Rattle.std.proofs.lemmas.List.{get_or-replicate, length-replicate, get_or-map, get_or_append_left}
use Rattle.std.proofs.lemmas.Bool.{eqb-true}
use Rattle.vp_dots.specs.Dots.{bit}
use Rattle.vp_dots.proofs.EndForEnd.{bit_reversed}
use Rattle.vp_dots.proofs.Swaps.{every, every_at}

abbrev shl : ℕ → ℕ → ℕ
shl x s = x * 2 ^ s % 256

abbrev shr : ℕ → ℕ → ℕ
shr x s = x / 2 ^ s

module _ (xs : List ℕ) (n : ℕ) (long : length xs ≡ n) where
  -- one operation on each byte
  each : (f : ℕ → ℕ → ℕ) (c i : ℕ) → i < n → get_or (zip2 f xs (replicate n c)) i 0 ≡ f (get_or xs i 0) c
  each f c i h = get_or-zip2 f xs (replicate n c) i 0 0 0 (omega (arith, long)) (omega (arith, length-replicate {A = ℕ} n c)) ∙ ap (f (get_or xs i 0)) (get_or-replicate n i c 0 h)

  long_each : (f : ℕ → ℕ → ℕ) (c : ℕ) → length (zip2 f xs (replicate n c)) ≡ n
  long_each f c = length-zip2 f xs (replicate n c) (long ∙ sym (length-replicate {A = ℕ} n c)) ∙ long

-- the bits of a mask that change places in each of some bytes
pub exchanged_lane : (xs : List ℕ) (n s mask i : ℕ) → length xs ≡ n → i < n
    → get_or (zip2 bit_or (zip2 shl (zip2 bit_and xs (replicate n mask)) (replicate n s)) (zip2 bit_and (zip2 shr xs (replicate n s)) (replicate n mask))) i 0
    ≡ bit_or (bit_and (get_or xs i 0) mask * 2 ^ s % 256) (bit_and (get_or xs i 0 / 2 ^ s) mask)
exchanged_lane xs n s mask i long h =
    let low = zip2 bit_and xs (replicate n mask) in
    let high = zip2 shr xs (replicate n s) in
    let low_long = long_each xs n long bit_and mask in
    let high_long = long_each xs n long shr s in
    get_or-zip2 bit_or (zip2 shl low (replicate n s)) (zip2 bit_and high (replicate n mask)) i 0 0 0 (omega (arith, long_each low n low_long shl s)) (omega (arith, long_each high n high_long bit_and mask))
    ∙ ap (λ x. bit_or x (get_or (zip2 bit_and high (replicate n mask)) i 0)) (each low n low_long shl s i h ∙ ap (λ x. shl x s) (each xs n long bit_and mask i h))
    ∙ ap (bit_or (shl (bit_and (get_or xs i 0) mask) s)) (each high n high_long bit_and mask i h ∙ ap (λ x. bit_and x mask) (each xs n long shr s i h))

pub length-exchanged : (xs : List ℕ) (n s mask : ℕ) → length xs ≡ n
    → length (zip2 bit_or (zip2 shl (zip2 bit_and xs (replicate n mask)) (replicate n s)) (zip2 bit_and (zip2 shr xs (replicate n s)) (replicate n mask))) ≡ n
length-exchanged xs n s mask long = grind (arith, long_each, length-zip2, length-replicate)

-- the three exchanges of a byte: of its halves, of theirs, and of theirs
abbrev pub exchange : ℕ → ℕ → ℕ → ℕ
exchange s mask n = bit_or (bit_and n mask * 2 ^ s % 256) (bit_and (n / 2 ^ s) mask)

all_mirrored : every 256 (λ n. eqb (exchange 1 0x55 (exchange 2 0x33 (exchange 4 0x0f n))) (reverse_bits_onto 8 n 0)) ≡ true
unfolding reverse_bits_onto
all_mirrored = refl

pub bit_mirrored : (n k : ℕ) → n < 256 → k < 8 → bit (exchange 1 0x55 (exchange 2 0x33 (exchange 4 0x0f n))) k ≡ bit n (7 - k)
bit_mirrored n k h l =
    ap (λ b. bit b k) (eqb-true _ _ (every_at 256 (λ n. eqb (exchange 1 0x55 (exchange 2 0x33 (exchange 4 0x0f n))) (reverse_bits_onto 8 n 0)) all_mirrored n h)) ∙ bit_reversed n k l

-- the places of sixteen bytes in the other order
abbrev downward : List ℕ
downward = 15 ∷ 14 ∷ 13 ∷ 12 ∷ 11 ∷ 10 ∷ 9 ∷ 8 ∷ 7 ∷ 6 ∷ 5 ∷ 4 ∷ 3 ∷ 2 ∷ 1 ∷ 0 ∷ []

all_downward : every 16 (λ i. eqb (get_or downward i 0) (15 - i)) ≡ true
all_downward = refl

pub backward_lane : (xs ys : List ℕ) (i : ℕ) → length xs ≡ 16 → i < 16 → get_or (map (λ n. get_or (xs ++ ys) n 0) downward) i 0 ≡ get_or xs (15 - i) 0
backward_lane xs ys i long h =
    get_or-map (λ n. get_or (xs ++ ys) n 0) downward i 0 0 h ∙ ap (λ n. get_or (xs ++ ys) n 0) (eqb-true _ _ (every_at 16 (λ i. eqb (get_or downward i 0) (15 - i)) all_downward i h))
    ∙ get_or_append_left xs ys 0 (15 - i) (omega (arith, long))
