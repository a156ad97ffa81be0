-- How long the parts of a message are, and where a character stands.
use Rattle.std.proofs.Common.{◌≡◌, ℕ, ◌+◌, ◌*◌, ◌/◌, ◌<◌, ◌≤◌, false, eqb, eq-eqb, List, [], ◌∷◌, length, get_or, refl, sym, arith}
use Rattle.std.specs.List.{position_or_len}
use Rattle.std.proofs.lemmas.List.{length-append}
use Rattle.std.proofs.lemmas.List.Sums.{position_or_len_is}
use Rattle.vp_qr.specs.Strings.{bits}
use Rattle.vp_qr.specs.declared.segment.Kind.{Kind}
use Rattle.vp_qr.specs.declared.segment.Kind.TheVariants.{Numeric, Alphanumeric, Byte}
use Rattle.vp_qr.specs.Segments.{message, count_bits, data_bits, numeric_bits, alphanumeric_bits, byte_bits, digit_value, alnum_value, two_digits}
use Rattle.vp_qr.proofs.Writing.{length-bits}

differs : (a b : ℕ) → (a ≡ b → ⊥) → eqb a b ≡ false
differs a b h = grind arith

-- the first place of a byte
pub first_place : (xs : List ℕ) (byte i : ℕ) → i ≤ length xs → ((k : ℕ) → k < i → get_or xs k 0 ≡ byte → ⊥) → (i < length xs → get_or xs i 0 ≡ byte)
    → i ≡ position_or_len (λ c. eqb c byte) xs
first_place xs byte i le before here =
    sym (position_or_len_is (λ c. eqb c byte) xs i 0 le (λ k h. differs (get_or xs k 0) byte (before k h)) (λ h. eq-eqb (get_or xs i 0) byte (here h)))

-- the lengths by three, by two and by one
pub length_numeric : (xs : List ℕ) → (10 * length xs + 2) / 3 ≡ length (numeric_bits xs)
unfolding numeric_bits
length_numeric [] = refl
length_numeric (a ∷ []) = sym (length-bits 4 (digit_value a))
length_numeric (a ∷ b ∷ []) = sym (length-bits 7 (two_digits a b))
length_numeric (a ∷ b ∷ c ∷ rest) = grind (arith, length-append, length-bits, length_numeric rest)

pub length_alphanumeric : (xs : List ℕ) → (11 * length xs + 1) / 2 ≡ length (alphanumeric_bits xs)
unfolding alphanumeric_bits
length_alphanumeric [] = refl
length_alphanumeric (a ∷ []) = sym (length-bits 6 (alnum_value a))
length_alphanumeric (a ∷ b ∷ rest) = grind (arith, length-append, length-bits, length_alphanumeric rest)

pub length_byte : (xs : List ℕ) → length xs * 8 ≡ length (byte_bits xs)
unfolding byte_bits
length_byte [] = refl
length_byte (a ∷ rest) = omega (arith, length-append (bits 8 a) (byte_bits rest), length-bits 8 a, length_byte rest)

pub ruleset data_lengths = (length_numeric, length_alphanumeric, length_byte)

-- a message is as long as its three parts
pub length_message : (kind : Kind) (version : ℕ) (src : List ℕ) → length (message kind version src) ≡ 4 + count_bits kind version + length (data_bits kind src)
unfolding message
length_message kind version src = grind (arith, length-append, length-bits)

-- and no shorter than its bytes
pub longer_than_bytes : (kind : Kind) (version : ℕ) (src : List ℕ) → length src ≤ length (message kind version src)
longer_than_bytes Numeric version src = omega (arith, length_message Numeric version src, length_numeric src)
longer_than_bytes Alphanumeric version src = omega (arith, length_message Alphanumeric version src, length_alphanumeric src)
longer_than_bytes Byte version src = omega (arith, length_message Byte version src, length_byte src)
