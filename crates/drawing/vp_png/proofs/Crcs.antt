-- The check of chunks, four bits at a time.
use Rattle.std.proofs.Common.{◌≡◌, ℕ, zero, suc, ◌+◌, ◌*◌, ◌/◌, ◌%◌, ◌^◌, ◌<◌, ◌≤◌, ◌⊎◌, inl, inr, List, [], ◌∷◌, ◌++◌, length, slice_index_or, get_or, drop, bit_xor, refl, ap, sym, ◌∙◌, arith}
use Rattle.std.specs.Int.Bits.{xor_assoc, xor_zero_r, xor_zero_l, xor_block}
use Rattle.std.proofs.lemmas.Nat.{xor_comm, xor_shr, xor_mod}
use Rattle.std.proofs.lemmas.Bool.{cases_lt}
use Rattle.std.proofs.lemmas.List.{at_drop_more, at_drop_all}
use Rattle.vp_png.specs.declared.crc.TheConstants.{FOURS}
use Rattle.vp_png.specs.Crc.{crc_bit, crc_bits, crc_behind}
use Rattle.vp_png.proofs.Tables.{same_in}

-- the polynomial, if a bit is 1
abbrev off : ℕ → ℕ
off bit = bit * 0xedb88320

bits_apart : (x : ℕ) → x < 2 → (x ≡ 0) ⊎ (x ≡ 1)
bits_apart x h = elim (cases_lt x 1) [ inl e ↦ inl (omega arith) | inr e ↦ inr (omega arith) ]

off_both : (x y : ℕ) → x < 2 → y < 2 → off (bit_xor x y) ≡ bit_xor (off x) (off y)
off_both x y hx hy = elim (bits_apart x hx) [
  | inl e ↦ elim (bits_apart y hy) [ inl f ↦ rw (e, f) refl | inr f ↦ rw (e, f) refl ]
  | inr e ↦ elim (bits_apart y hy) [ inl f ↦ rw (e, f) refl | inr f ↦ rw (e, f) refl ]
]

crossed : (a b c d : ℕ) → bit_xor (bit_xor a b) (bit_xor c d) ≡ bit_xor (bit_xor a c) (bit_xor b d)
crossed a b c d =
    xor_assoc a b (bit_xor c d)
    ∙ ap (bit_xor a) (sym (xor_assoc b c d) ∙ ap (λ (n : ℕ). bit_xor n d) (xor_comm b c) ∙ xor_assoc c b d)
    ∙ sym (xor_assoc a c (bit_xor b d))

half : (a b : ℕ) → bit_xor a b / 2 ≡ bit_xor (a / 2) (b / 2)
half a b = xor_shr a b 1

lowest : (a b : ℕ) → bit_xor a b % 2 ≡ bit_xor (a % 2) (b % 2)
lowest a b = xor_mod a b 1

bit_both : (a b : ℕ) → crc_bit (bit_xor a b) ≡ bit_xor (crc_bit a) (crc_bit b)
unfolding crc_bit
bit_both a b =
    ap (λ (n : ℕ). bit_xor n (off (bit_xor a b % 2))) (half a b)
    ∙ ap (bit_xor (bit_xor (a / 2) (b / 2))) (ap off (lowest a b) ∙ off_both (a % 2) (b % 2) (omega arith) (omega arith))
    ∙ crossed (a / 2) (b / 2) (off (a % 2)) (off (b % 2))

bits_both : (n a b : ℕ) → crc_bits n (bit_xor a b) ≡ bit_xor (crc_bits n a) (crc_bits n b)
unfolding crc_bits
bits_both zero a b = refl
bits_both (suc n) a b = ap (crc_bits n) (bit_both a b) ∙ bits_both n (crc_bit a) (crc_bit b)

even_bit : (a : ℕ) → crc_bit (2 * a) ≡ a
unfolding crc_bit
even_bit a =
    let e : 2 * a / 2 ≡ a = omega arith in
    let f : 2 * a % 2 ≡ 0 = omega arith in
    ap (λ (n : ℕ). bit_xor n (off (2 * a % 2))) e ∙ ap (λ (n : ℕ). bit_xor a (off n)) f ∙ xor_zero_r a

high_bits : (a : ℕ) → crc_bits 4 (2 * (2 * (2 * (2 * a)))) ≡ a
unfolding crc_bits
high_bits a =
    ap (λ (n : ℕ). crc_bit (crc_bit (crc_bit n))) (even_bit (2 * (2 * (2 * a))))
    ∙ ap (λ (n : ℕ). crc_bit (crc_bit n)) (even_bit (2 * (2 * a)))
    ∙ ap crc_bit (even_bit (2 * a)) ∙ even_bit a

split : (c : ℕ) → c ≡ bit_xor (c % 16) (2 * (2 * (2 * (2 * (c / 16)))))
split c =
    let e : c ≡ c / 16 * 2 ^ 4 + c % 16 = omega arith in
    let k : bit_xor (0 * 2 ^ 4 + c % 16) (c / 16 * 2 ^ 4 + 0) ≡ bit_xor 0 (c / 16) * 2 ^ 4 + bit_xor (c % 16) 0 =
    xor_block 4 0 (c / 16) (c % 16) 0 (omega arith) (omega arith) in
    let f : 0 * 2 ^ 4 + c % 16 ≡ c % 16 = omega arith in
    let g : c / 16 * 2 ^ 4 + 0 ≡ 2 * (2 * (2 * (2 * (c / 16)))) = omega arith in
    let m : bit_xor (c % 16) (2 * (2 * (2 * (2 * (c / 16))))) ≡ c / 16 * 2 ^ 4 + c % 16 =
    ap (λ (n : ℕ). bit_xor n (2 * (2 * (2 * (2 * (c / 16)))))) (sym f) ∙ ap (bit_xor (0 * 2 ^ 4 + c % 16)) (sym g) ∙ k
    ∙ ap (λ (n : ℕ). bit_xor 0 (c / 16) * 2 ^ 4 + n) (xor_zero_r (c % 16)) ∙ ap (λ (n : ℕ). n * 2 ^ 4 + c % 16) (xor_zero_l (c / 16)) in
    e ∙ sym m

low_fours : (k : ℕ) → k < 16 → slice_index_or FOURS k 0 ≡ crc_bits 4 k
unfolding crc_bits crc_bit
low_fours k h = same_in 16 (λ (j : ℕ). slice_index_or FOURS j 0) (λ (j : ℕ). crc_bits 4 j) refl k h

pub four_bits : (c : ℕ) → bit_xor (slice_index_or FOURS (c % 16) 0) (c / 16) ≡ crc_bits 4 c
four_bits c =
    ap (λ (n : ℕ). bit_xor n (c / 16)) (low_fours (c % 16) (omega arith))
    ∙ ap (bit_xor (crc_bits 4 (c % 16))) (sym (high_bits (c / 16)))
    ∙ sym (bits_both 4 (c % 16) (2 * (2 * (2 * (2 * (c / 16))))))
    ∙ ap (crc_bits 4) (sym (split c))

eight_bits : (c : ℕ) → crc_bits 4 (crc_bits 4 c) ≡ crc_bits 8 c
unfolding crc_bits
eight_bits c = refl

pub behind_more : (c : ℕ) (bytes : List ℕ) (i : ℕ) → i < length bytes →
    crc_behind (crc_bits 4 (crc_bits 4 (bit_xor c (get_or bytes i 0)))) (drop (i + 1) bytes) ≡ crc_behind c (drop i bytes)
unfolding crc_behind
behind_more c bytes i h =
    ap (λ (n : ℕ). crc_behind n (drop (i + 1) bytes)) (eight_bits (bit_xor c (get_or bytes i 0)))
    ∙ sym (at_drop_more (crc_behind c) bytes i 0 h)

pub behind_all : (c : ℕ) (bytes : List ℕ) (i : ℕ) → length bytes ≤ i → crc_behind c (drop i bytes) ≡ c
unfolding crc_behind
behind_all c bytes i h = at_drop_all (crc_behind c) bytes i h

pub behind_both : (c : ℕ) (xs ys : List ℕ) → crc_behind c (xs ++ ys) ≡ crc_behind (crc_behind c xs) ys
unfolding crc_behind
behind_both c [] ys = refl
behind_both c (x ∷ xs) ys = behind_both (crc_bits 8 (bit_xor c x)) xs ys
