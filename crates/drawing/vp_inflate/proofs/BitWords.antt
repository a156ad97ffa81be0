-- Bits of numbers.
use Rattle.std.proofs.Common.{◌≡◌, ℕ, zero, suc, ◌+◌, ◌-◌, ◌*◌, ◌/◌, ◌%◌, ◌^◌, ◌<◌, ◌≤◌, List, ◌∷◌, ◌++◌, length, take, drop, Ok, Err, refl, sym, ap, ◌∙◌, arith, lit<, bit_and}
use Rattle.std.proofs.Math.Nat.{pow-suc, mod-eq_of_lt, lt_of_mul-lt-mul_right, pow-le-pow_right}
use Rattle.std.proofs.lemmas.Nat.{shr-shr, mod-pow-add, shr_split, pow-add, one_shl, and_mask}
use Rattle.std.proofs.lemmas.Bool.{lt-ltb, le-ltb}
use Rattle.vp_inflate.specs.declared.fault.Stop.TheVariants.{Short}
use Rattle.vp_inflate.specs.Bits.{bits, number, number_at, aligned}

pub length_bits : (n v : ℕ) → length (bits n v) ≡ n
unfolding bits
length_bits zero v = refl
length_bits (suc n) v = omega (arith, length_bits n (v / 2))

pub number_bits : (n v : ℕ) → number (bits n v) ≡ v % 2 ^ n
unfolding bits
number_bits zero v = omega arith
number_bits (suc n) v =
    let e = number_bits n (v / 2) in
    let f = mod-pow-add v n 1 in
    let g : n + 1 ≡ suc n = omega arith in
    let h : v % 2 ^ (suc n) ≡ (v / 2 % 2 ^ n) * 2 + v % 2 = ap (λ (k : ℕ). v % 2 ^ k) (sym g) ∙ f in
    omega (arith, e, h)

pub bits_take : (n c v : ℕ) → n ≤ c → take n (bits c v) ≡ bits n v
unfolding bits
bits_take zero c v h = refl
bits_take (suc n) zero v h = absurd (omega arith)
bits_take (suc n) (suc c) v h = ap (λ (l : List ℕ). v % 2 ∷ l) (bits_take n c (v / 2) (omega arith))

pub bits_drop : (n c v : ℕ) → n ≤ c → drop n (bits c v) ≡ bits (c - n) (v / 2 ^ n)
unfolding bits
bits_drop zero c v h =
    let e : c - 0 ≡ c = omega arith in
    let f : v / 1 ≡ v = omega arith in
    sym (ap (λ (k : ℕ). bits k (v / 1)) e ∙ ap (λ (k : ℕ). bits c k) f)
bits_drop (suc n) zero v h = absurd (omega arith)
bits_drop (suc n) (suc c) v h =
    let e : suc c - suc n ≡ c - n = omega arith in
    let f : v / 2 / 2 ^ n ≡ v / 2 ^ suc n = shr-shr v 1 n ∙ ap (λ (k : ℕ). v / 2 ^ k) (omega arith) in
    bits_drop n c (v / 2) (omega arith) ∙ ap (λ (k : ℕ). bits k (v / 2 / 2 ^ n)) (sym e) ∙ ap (bits (suc c - suc n)) f

-- bits behind bits
pub bits_more : (c n v w : ℕ) → v < 2 ^ c → bits c v ++ bits n w ≡ bits (c + n) (v + w * 2 ^ c)
unfolding bits
bits_more zero n v w h =
    let e : n ≡ 0 + n = omega arith in
    let f : w ≡ v + w * 2 ^ 0 = omega arith in
    ap (bits n) f ∙ ap (λ (k : ℕ). bits k (v + w * 2 ^ 0)) e
bits_more (suc c) n v w h =
    let p = pow-suc 2 c in
    let q : w * 2 ^ suc c ≡ 2 * (w * 2 ^ c) = ap (λ (k : ℕ). w * k) p ∙ omega arith in
    let e : v % 2 ≡ (v + w * 2 ^ suc c) % 2 = omega (arith, q) in
    let f : v / 2 + w * 2 ^ c ≡ (v + w * 2 ^ suc c) / 2 = omega (arith, q) in
    let g : suc (c + n) ≡ suc c + n = omega arith in
    let i = bits_more c n (v / 2) w (omega (arith, p)) in
    ap (λ (l : List ℕ). v % 2 ∷ l) i ∙ ap (λ (k : ℕ). k ∷ bits (c + n) (v / 2 + w * 2 ^ c)) e
    ∙ ap (λ (k : ℕ). (v + w * 2 ^ suc c) % 2 ∷ bits (c + n) k) f
    ∙ ap (λ (k : ℕ). bits k (v + w * 2 ^ suc c)) g

pub number_small : (n v : ℕ) → v < 2 ^ n → number (bits n v) ≡ v
number_small n v h = number_bits n v ∙ omega (arith, mod-eq_of_lt {n = v} {m = 2 ^ n} h)

-- what is held: c bits of v
pub within_drop : (n c v : ℕ) → v < 2 ^ c → n ≤ c → v / 2 ^ n < 2 ^ (c - n)
within_drop n c v h le =
    let s = shr_split v n in
    let p : 2 ^ c ≡ 2 ^ (c - n) * 2 ^ n = ap (λ (k : ℕ). 2 ^ k) (omega arith) ∙ pow-add 2 (c - n) n in
    lt_of_mul-lt-mul_right (2 ^ n) (omega (arith, s, p))

pub number_short : (n c v : ℕ) → c < n → number_at n (bits c v) ≡ Err Short
unfolding number_at
number_short n c v h = rw (lt-ltb (length (bits c v)) n (omega (arith, length_bits c v))) refl

pub number_held : (n c v : ℕ) → n ≤ c → number_at n (bits c v) ≡ Ok (v % 2 ^ n, bits (c - n) (v / 2 ^ n))
unfolding number_at
number_held n c v h =
    rw (le-ltb (length (bits c v)) n (omega (arith, length_bits c v)))
    (ap (λ (l : List ℕ). Ok (number l, drop n (bits c v))) (bits_take n c v h)
    ∙ ap (λ (k : ℕ). Ok (k, drop n (bits c v))) (number_bits n v)
    ∙ ap (λ (l : List ℕ). Ok (v % 2 ^ n, l)) (bits_drop n c v h))

pub aligned_held : (c v : ℕ) → aligned (bits c v) ≡ bits (c - c % 8) (v / 2 ^ (c % 8))
unfolding aligned
aligned_held c v = ap (λ (k : ℕ). drop (k % 8) (bits c v)) (length_bits c v) ∙ bits_drop (c % 8) c v (omega arith)

-- a byte above c bits
pub byte_above : (c b : ℕ) → c ≤ 56 → b < 256 → b * 2 ^ c % 18446744073709551616 ≡ b * 2 ^ c
byte_above c b h lt =
    let p : 2 ^ c ≤ 2 ^ 56 = pow-le-pow_right (lit< tt) h in
    mod-eq_of_lt (grind (arith, p))

pub above_within : (c v b : ℕ) → v < 2 ^ c → b < 256 → v + b * 2 ^ c < 2 ^ (c + 8)
above_within c v b h lt =
    let p : 2 ^ (c + 8) ≡ 2 ^ c * 256 = pow-add 2 c 8 in
    grind (arith, p)

pub mask : (v n : ℕ) → n < 64 → bit_and v (1 * 2 ^ n % 18446744073709551616 - 1) ≡ v % 2 ^ n
mask v n h = ap (λ (m : ℕ). bit_and v (m - 1)) (one_shl n 64 h) ∙ and_mask v n

pub above_fits : (c v b : ℕ) → c ≤ 56 → v < 2 ^ c → b < 256 → v + b * 2 ^ c % 18446744073709551616 < 2 ^ 64
above_fits c v b few h lt =
    let e = byte_above c b few lt in
    let w = above_within c v b h lt in
    let le : c + 8 ≤ 64 = omega arith in
    let p : 2 ^ (c + 8) ≤ 2 ^ 64 = pow-le-pow_right (lit< tt) le in
    omega (arith, e, w, p)
