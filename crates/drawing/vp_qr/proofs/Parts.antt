-- The data of a segment, part by part.
use Rattle.std.proofs.Common.{◌≡◌, ℕ, ◌+◌, ◌-◌, ◌<◌, ◌≤◌, List, [], ◌∷◌, ◌++◌, length, get_or, take, drop, refl, sym, ap, ◌∙◌, arith, append_assoc}
use Rattle.std.proofs.lemmas.List.{length-append, take_rest}
use Rattle.vp_qr.specs.Strings.{bits}
use Rattle.vp_qr.specs.Segments.{numeric_bits, alphanumeric_bits, byte_bits, digit_value, alnum_value, three_digits, two_digits, pair_value}

-- a part more is written
pub part_written : {X : Type 0} (out new whole rest front behind : List X) → new ≡ out ++ front → rest ≡ front ++ behind → out ++ rest ≡ whole → new ++ behind ≡ whole
part_written out new whole rest front behind e f h = ap (λ l. l ++ behind) e ∙ append_assoc out front behind ∙ ap (λ l. out ++ l) (sym f) ∙ h

-- the front of what is still to be written has room
pub room_for : {X : Type 0} (out rest front behind start all : List X) (n most : ℕ) → length start + length all ≤ most → out ++ rest ≡ start ++ all → rest ≡ front ++ behind → length front ≡ n → length out + n ≤ most
room_for out rest front behind start all n most le h e f = grind (arith, length-append start all, length-append out rest, length-append front behind)

-- and so has as much as is left
pub room_left : {X : Type 0} (out rest start all : List X) (n : ℕ) → out ++ rest ≡ start ++ all → length start + length all ≤ 2192 → n ≤ length rest → length out + n ≤ 2192
room_left out rest start all n e le h = omega (arith, length-append out rest, ap length e, length-append start all)

pub three_more : (xs : List ℕ) → 3 ≤ length xs → numeric_bits xs ≡ bits 10 (three_digits (get_or xs 0 0) (get_or xs 1 0) (get_or xs 2 0)) ++ numeric_bits (take (length xs - 3) (drop 3 xs))
unfolding numeric_bits
three_more [] h = absurd (omega arith)
three_more (a ∷ []) h = absurd (omega arith)
three_more (a ∷ b ∷ []) h = absurd (omega arith)
three_more (a ∷ b ∷ c ∷ rest) h = ap (λ l. bits 10 (three_digits a b c) ++ numeric_bits l) (sym (take_rest (a ∷ b ∷ c ∷ rest) 3))

pub two_last : (xs : List ℕ) → 2 ≤ length xs → length xs < 3 → numeric_bits xs ≡ bits 7 (two_digits (get_or xs 0 0) (get_or xs 1 0))
unfolding numeric_bits
two_last xs h lt = grind arith

pub one_last : (xs : List ℕ) → 1 ≤ length xs → length xs < 2 → numeric_bits xs ≡ bits 4 (digit_value (get_or xs 0 0))
unfolding numeric_bits
one_last xs h lt = grind arith

pub no_digit : (xs : List ℕ) → length xs < 1 → numeric_bits xs ≡ []
unfolding numeric_bits
no_digit xs h = grind arith

pub two_more : (xs : List ℕ) → 2 ≤ length xs → alphanumeric_bits xs ≡ bits 11 (pair_value (get_or xs 0 0) (get_or xs 1 0)) ++ alphanumeric_bits (take (length xs - 2) (drop 2 xs))
unfolding alphanumeric_bits
two_more [] h = absurd (omega arith)
two_more (a ∷ []) h = absurd (omega arith)
two_more (a ∷ b ∷ rest) h = ap (λ l. bits 11 (pair_value a b) ++ alphanumeric_bits l) (sym (take_rest (a ∷ b ∷ rest) 2))

pub character_last : (xs : List ℕ) → 1 ≤ length xs → length xs < 2 → alphanumeric_bits xs ≡ bits 6 (alnum_value (get_or xs 0 0))
unfolding alphanumeric_bits
character_last xs h lt = grind arith

pub no_character : (xs : List ℕ) → length xs < 1 → alphanumeric_bits xs ≡ []
unfolding alphanumeric_bits
no_character xs h = grind arith

pub byte_more : (xs : List ℕ) → 1 ≤ length xs → byte_bits xs ≡ bits 8 (get_or xs 0 0) ++ byte_bits (take (length xs - 1) (drop 1 xs))
unfolding byte_bits
byte_more [] h = absurd (omega arith)
byte_more (a ∷ rest) h = ap (λ l. bits 8 a ++ byte_bits l) (sym (take_rest (a ∷ rest) 1))

pub no_byte : (xs : List ℕ) → length xs < 1 → byte_bits xs ≡ []
unfolding byte_bits
no_byte [] h = refl
no_byte (a ∷ rest) h = absurd (omega arith)

pub room_for_one : {X : Type 0} (out rest behind start all : List X) (x : X) (most : ℕ) → length start + length all ≤ most → out ++ rest ≡ start ++ all → rest ≡ (x ∷ []) ++ behind → length out + 1 ≤ most
room_for_one out rest behind start all x most le h e = room_for out rest (x ∷ []) behind start all 1 most le h e refl
