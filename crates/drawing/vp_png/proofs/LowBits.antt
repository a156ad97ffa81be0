-- The bits of numbers, cut and joined.
use Rattle.std.proofs.Common.{◌≡◌, ℕ, zero, suc, ◌+◌, ◌-◌, ◌*◌, ◌/◌, ◌%◌, ◌^◌, ◌<◌, ◌≤◌, List, [], ◌∷◌, ◌++◌, length, replicate, refl, ap, sym, ◌∙◌, arith, append_assoc, length-append, add-one, subst}
use Rattle.std.proofs.Math.Pow.{mod-mod-pow}
use Rattle.std.proofs.lemmas.Nat.{field_of, shr-shr, shr_high, mod_low, shr_below, shl_whole, mul-add-lt, pow-add}
use Rattle.std.proofs.lemmas.Grind.{flat_map-append}
use Rattle.std.proofs.lemmas.List.{append-nil}
use Rattle.vp_png.specs.declared.bits.Bits.{Bits}
use Rattle.vp_png.specs.Bits.{low_bits, bits_of}
use Rattle.vp_png.specs.Kept.{bits_in}

pub length_low : (n x : ℕ) → length (low_bits n x) ≡ n
unfolding low_bits
length_low zero x = refl
length_low (suc n) x = ap suc (length_low n (x / 2))

pub length_bits_of : (xs : List ℕ) → length (bits_of xs) ≡ 8 * length xs
length_bits_of [] = refl
length_bits_of (x ∷ xs) = omega (arith, length-append (low_bits 8 x) (bits_of xs), length_low 8 x, length_bits_of xs)

no_bits : (x : ℕ) → low_bits 0 x ≡ []
unfolding low_bits
no_bits x = refl

one_more : (n x : ℕ) → low_bits (suc n) x ≡ x % 2 ∷ low_bits n (x / 2)
unfolding low_bits
one_more n x = refl

first_bit : (a x : ℕ) → x % 2 ^ suc a % 2 ≡ x % 2
first_bit a x = subst (λ (n : ℕ). x % 2 ^ n % 2 ≡ x % 2) (add-one a) (mod-mod-pow x a 1)

other_bits : (a x : ℕ) → x % 2 ^ suc a / 2 ≡ x / 2 % 2 ^ a
other_bits a x = subst (λ (n : ℕ). x % 2 ^ n / 2 ≡ x / 2 % 2 ^ a) (add-one a) (field_of x a 1)

past_bits : (a x : ℕ) → x / 2 / 2 ^ a ≡ x / 2 ^ suc a
past_bits a x =
    let e : 1 + a ≡ suc a = omega arith in
    subst (λ (n : ℕ). x / 2 / 2 ^ a ≡ x / 2 ^ n) e (shr-shr x 1 a)

-- the first a bits and the next b
pub low_split : (a b x : ℕ) → low_bits (a + b) x ≡ low_bits a (x % 2 ^ a) ++ low_bits b (x / 2 ^ a)
low_split zero b x =
    let e : x / 2 ^ 0 ≡ x = omega arith in
    let f : 0 + b ≡ b = omega arith in
    ap (λ (n : ℕ). low_bits n x) f ∙ ap (low_bits b) (sym e) ∙ ap (λ (l : List ℕ). l ++ low_bits b (x / 2 ^ 0)) (sym (no_bits (x % 2 ^ 0)))
low_split (suc a) b x =
    let f : suc a + b ≡ suc (a + b) = omega arith in
    ap (λ (n : ℕ). low_bits n x) f
    ∙ one_more (a + b) x
    ∙ ap (λ (l : List ℕ). x % 2 ∷ l) (low_split a b (x / 2))
    ∙ ap (λ (m : ℕ). x % 2 ∷ low_bits a (x / 2 % 2 ^ a) ++ low_bits b m) (past_bits a x)
    ∙ ap (λ (m : ℕ). m ∷ low_bits a (x / 2 % 2 ^ a) ++ low_bits b (x / 2 ^ suc a)) (sym (first_bit a x))
    ∙ ap (λ (m : ℕ). x % 2 ^ suc a % 2 ∷ low_bits a m ++ low_bits b (x / 2 ^ suc a)) (sym (other_bits a x))
    ∙ ap (λ (l : List ℕ). l ++ low_bits b (x / 2 ^ suc a)) (sym (one_more a (x % 2 ^ suc a)))

-- a number behind c bits
pub low_joined : (c n h v : ℕ) → h < 2 ^ c → low_bits (c + n) (h + v * 2 ^ c) ≡ low_bits c h ++ low_bits n v
low_joined c n h v lt =
    let e : h + v * 2 ^ c ≡ v * 2 ^ c + h = omega arith in
    rw e (low_split c n (v * 2 ^ c + h)
    ∙ ap (λ (m : ℕ). low_bits c m ++ low_bits n ((v * 2 ^ c + h) / 2 ^ c)) (mod_low v c h lt)
    ∙ ap (λ (m : ℕ). low_bits c h ++ low_bits n m) (shr_high v c h lt))

-- a byte more
pub byte_more : (bytes : List ℕ) (count held : ℕ) → 8 ≤ count →
    bits_of (bytes ++ held % 256 ∷ []) ++ low_bits (count - 8) (held / 256) ≡ bits_of bytes ++ low_bits count held
byte_more bytes count held h =
    let e : count ≡ 8 + (count - 8) = omega arith in
    ap (λ (l : List ℕ). l ++ low_bits (count - 8) (held / 256)) (flat_map-append (low_bits 8) bytes (held % 256 ∷ []) ∙ ap (λ (l : List ℕ). bits_of bytes ++ l) (append-nil (low_bits 8 (held % 256))))
    ∙ append_assoc (bits_of bytes) (low_bits 8 (held % 256)) (low_bits (count - 8) (held / 256))
    ∙ ap (λ (l : List ℕ). bits_of bytes ++ l) (sym (low_split 8 (count - 8) held))
    ∙ ap (λ (n : ℕ). bits_of bytes ++ low_bits n held) (sym e)

-- what is left of so many bits
pub byte_less : (count held : ℕ) → 8 ≤ count → held < 2 ^ count → held / 256 < 2 ^ (count - 8)
byte_less count held h lt =
    let e : count ≡ (count - 8) + 8 = omega arith in
    shr_below held (count - 8) 8 (subst (λ (n : ℕ). held < 2 ^ n) e lt)

pub zeros : (n : ℕ) → low_bits n 0 ≡ replicate n 0
unfolding low_bits
zeros zero = refl
zeros (suc n) = ap (λ (l : List ℕ). 0 ∷ l) (zeros n)

pub nothing_in : bits_of [] ++ low_bits 0 0 ≡ []
unfolding low_bits
nothing_in = refl

-- a number written behind those that are held
pub written : (count n held value : ℕ) → count < 8 → n ≤ 16 → held < 2 ^ count → value < 2 ^ n →
    (value * 2 ^ count % 4294967296 ≡ value * 2 ^ count) × (held + value * 2 ^ count < 2 ^ (count + n))
written count n held value few most lt small =
    (shl_whole value n count 32 small (omega arith), rw (pow-add 2 count n) (omega (arith, mul-add-lt value (2 ^ count) held (2 ^ n) small lt)))

-- how many bits were written
pub long_in : (s : Bits) → length (bits_in s) ≡ 8 * length s.bytes.items + s.count
long_in s = omega (arith, length-append (bits_of s.bytes.items) (low_bits s.count s.held), length_low s.count s.held, length_bits_of s.bytes.items)

-- and how many after n more
pub long_more : (s t : Bits) (more : List ℕ) → bits_in t ≡ bits_in s ++ more →
    8 * length t.bytes.items + t.count ≡ 8 * length s.bytes.items + s.count + length more
long_more s t more e = omega (arith, ap length e, length-append (bits_in s) more, long_in s, long_in t)

-- four bytes, one behind another
pub four_more : (start : List ℕ) (a b c d : ℕ) (s t u v : List ℕ) → s ≡ start ++ low_bits 8 a → t ≡ s ++ low_bits 8 b → u ≡ t ++ low_bits 8 c → v ≡ u ++ low_bits 8 d →
    v ≡ start ++ bits_of (a ∷ b ∷ c ∷ d ∷ [])
four_more start a b c d s t u v p q r e = rw (e, r, q, p) (simp (append_assoc, append-nil))

pub four_same : (a b c d w x y z : ℕ) → a ≡ w → b ≡ x → c ≡ y → d ≡ z → a ∷ b ∷ c ∷ d ∷ [] ≡ w ∷ x ∷ y ∷ z ∷ []
four_same a b c d w x y z p q r e = cc

pub whole_bytes : (s : Bits) → s.count ≡ 0 → bits_in s ≡ bits_of s.bytes.items
whole_bytes s e = ap (λ (n : ℕ). bits_of s.bytes.items ++ low_bits n s.held) e ∙ ap (λ (l : List ℕ). bits_of s.bytes.items ++ l) (no_bits s.held) ∙ append-nil (bits_of s.bytes.items)
