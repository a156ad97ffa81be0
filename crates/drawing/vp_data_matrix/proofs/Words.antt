-- The data codewords as they are counted and written.
use Rattle.std.proofs.Common.{◌≡◌, ℕ, suc, ◌+◌, ◌-◌, ◌/◌, ◌%◌, ◌<◌, ◌≤◌, ◌&&◌, true, false, List, [], ◌∷◌, ◌++◌, length, take, drop, get_or, refl, sym, ap, ◌∙◌, inl, inr, arith, append_assoc, append-nil, length-append}
use Rattle.std.proofs.lemmas.List.{take_rest, drop_more}
use Rattle.std.proofs.lemmas.Bool.{lt-ltb, le-ltb, cases_lt}
use Rattle.vp_data_matrix.specs.Ascii.{digit, single, digit_pair, ascii}
use Rattle.vp_data_matrix.specs.Base256.{randomised, randomised_from, length_field, base_256}
use Rattle.vp_data_matrix.specs.Pads.{pad, pads_from, pads, padded}

-- what is written, and what is still to be written, are the whole
pub part_written : (out new whole rest front behind : List ℕ) → new ≡ out ++ front → rest ≡ front ++ behind → out ++ rest ≡ whole → new ++ behind ≡ whole
part_written out new whole rest front behind e f h = ap (λ l. l ++ behind) e ∙ append_assoc out front behind ∙ ap (λ l. out ++ l) (sym f) ∙ h

pub written_all : (out whole rest : List ℕ) → rest ≡ [] → out ++ rest ≡ whole → out ≡ whole
written_all out whole rest e h = sym (append-nil out) ∙ ap (λ l. out ++ l) (sym e) ∙ h

-- the front of what is still to be written has room
pub room_for : (out rest front behind start all : List ℕ) (most : ℕ) → length start + length all ≤ most → out ++ rest ≡ start ++ all → rest ≡ front ++ behind → length out + length front ≤ most
room_for out rest front behind start all most le h e = omega (arith, length-append start all, length-append out rest, length-append front behind, ap length h, ap length e)

-- and what stands behind it
pub room_behind : (out new rest front behind start all : List ℕ) (most : ℕ) → length start + length all ≤ most → new ≡ out ++ front → rest ≡ front ++ behind → out ++ rest ≡ start ++ all → length new + length behind ≤ most
room_behind out new rest front behind start all most le e f h =
    omega (arith, length-append start all, length-append new behind, ap length (part_written out new (start ++ all) rest front behind e f h))

-- a byte by itself
pub single_low : (byte : ℕ) → byte < 128 → single byte ≡ (byte + 1) ∷ []
single_low byte h = rw (lt-ltb byte 128 h) refl

pub single_high : (byte : ℕ) → 128 ≤ byte → single byte ≡ 235 ∷ (byte - 127) ∷ []
single_high byte h = rw (le-ltb byte 128 h) refl

-- bytes in ASCII encodation
pub ascii_pair : (xs : List ℕ) → 2 ≤ length xs → (digit (get_or xs 0 0) && digit (get_or xs 1 0)) ≡ true
    → ascii xs ≡ (digit_pair (get_or xs 0 0) (get_or xs 1 0) ∷ []) ++ ascii (take (length xs - 2) (drop 2 xs))
unfolding ascii
ascii_pair [] h d = absurd (omega arith)
ascii_pair (a ∷ []) h d = absurd (omega arith)
ascii_pair (a ∷ b ∷ rest) h d = rw d (ap (λ l. digit_pair a b ∷ ascii l) (sym (take_rest (a ∷ b ∷ rest) 2)))

pub ascii_one : (xs : List ℕ) → 2 ≤ length xs → (digit (get_or xs 0 0) && digit (get_or xs 1 0)) ≡ false
    → ascii xs ≡ single (get_or xs 0 0) ++ ascii (take (length xs - 1) (drop 1 xs))
unfolding ascii
ascii_one [] h d = absurd (omega arith)
ascii_one (a ∷ []) h d = absurd (omega arith)
ascii_one (a ∷ b ∷ rest) h d = rw d (ap (λ l. single a ++ ascii l) (sym (take_rest (a ∷ b ∷ rest) 1)))

pub ascii_last : (xs : List ℕ) → 1 ≤ length xs → length xs < 2 → ascii xs ≡ single (get_or xs 0 0)
unfolding ascii
ascii_last [] h lt = absurd (omega arith)
ascii_last (a ∷ []) h lt = refl
ascii_last (a ∷ b ∷ rest) h lt = absurd (omega arith)

pub ascii_none : (xs : List ℕ) → length xs < 1 → ascii xs ≡ []
unfolding ascii
ascii_none [] h = refl
ascii_none (a ∷ xs) h = absurd (omega arith)

-- codewords of base 256
pub length-randomised : (p : ℕ) (xs : List ℕ) → length (randomised_from p xs) ≡ length xs
length-randomised p [] = refl
length-randomised p (x ∷ xs) = ap suc (length-randomised (p + 1) xs)

pub randomised_append : (p : ℕ) (xs ys : List ℕ) → randomised_from p (xs ++ ys) ≡ randomised_from p xs ++ randomised_from (p + length xs) ys
randomised_append p [] ys = ap (λ n. randomised_from n ys) (omega arith)
randomised_append p (x ∷ xs) ys =
    let e : p + 1 + length xs ≡ p + suc (length xs) = omega arith in
    ap (λ l. randomised p x ∷ l) (randomised_append (p + 1) xs ys ∙ ap (λ n. randomised_from (p + 1) xs ++ randomised_from n ys) e)

pub randomised_more : (p : ℕ) (xs : List ℕ) (i : ℕ) → i < length xs → randomised_from p (drop i xs) ≡ (randomised p (get_or xs i 0) ∷ []) ++ randomised_from (p + 1) (drop (i + 1) xs)
randomised_more p xs i h = ap (randomised_from p) (drop_more xs i 0 h)

pub length-base_256 : (before : ℕ) (src : List ℕ) → length (base_256 before src) ≡ 1 + length (length_field (length src)) + length src
unfolding base_256
length-base_256 before src = omega (arith, length-randomised (before + 2) (length_field (length src) ++ src), length-append (length_field (length src)) src)

pub field_short : (n : ℕ) → n < 250 → length_field n ≡ n ∷ []
field_short n h = rw (lt-ltb n 250 h) refl

pub field_long : (n : ℕ) → 250 ≤ n → length_field n ≡ (249 + n / 250) ∷ (n % 250) ∷ []
field_long n h = rw (le-ltb n 250 h) refl

pub base_256_short : (before : ℕ) (src : List ℕ) → length src < 250 → length (base_256 before src) ≡ 2 + length src
base_256_short before src h = omega (arith, length-base_256 before src, ap length (field_short (length src) h))

pub base_256_long : (before : ℕ) (src : List ℕ) → 250 ≤ length src → length (base_256 before src) ≡ 3 + length src
base_256_long before src h = omega (arith, length-base_256 before src, ap length (field_long (length src) h))

pub base_256_most : (before : ℕ) (src : List ℕ) → length (base_256 before src) ≤ 1558 → length src ≤ 1555
base_256_most before src h = elim (cases_lt (length src) 250) [
  | inl lt ↦ omega arith
  | inr le ↦ omega (arith, base_256_long before src le)
]

-- the latch, the length and the bytes
pub base_256_written : (out one two three src : List ℕ) → one ≡ out ++ 231 ∷ []
    → two ≡ one ++ randomised_from (length one + 1) (length_field (length src)) → three ≡ two ++ randomised_from (length two + 1) src
    → three ≡ out ++ base_256 (length out) src
unfolding base_256
base_256_written out one two three src e f g =
    let field : List ℕ = length_field (length src) in
    let first : length one + 1 ≡ length out + 2 = omega (arith, ap length e, length-append out (231 ∷ [])) in
    let second : length two + 1 ≡ length out + 2 + length field =
    omega (arith, ap length f, length-append one (randomised_from (length one + 1) field), length-randomised (length one + 1) field) in
    g ∙ ap (λ n. two ++ randomised_from n src) second
    ∙ ap (λ l. l ++ randomised_from (length out + 2 + length field) src) (f ∙ ap (λ n. one ++ randomised_from n field) first)
    ∙ append_assoc one (randomised_from (length out + 2) field) (randomised_from (length out + 2 + length field) src)
    ∙ ap (λ l. one ++ l) (sym (randomised_append (length out + 2) field src))
    ∙ ap (λ l. l ++ randomised_from (length out + 2) (field ++ src)) e
    ∙ append_assoc out (231 ∷ []) (randomised_from (length out + 2) (field ++ src))

-- pads
pub pads_more : (p n : ℕ) → p < n → pads_from p (n - p) ≡ (pad p ∷ []) ++ pads_from (p + 1) (n - (p + 1))
pads_more p n h =
    let e : n - p ≡ suc (n - (p + 1)) = omega arith in
    rw e refl

pub pads_none : (p n : ℕ) → n ≤ p → pads_from p (n - p) ≡ []
pads_none p n h =
    let e : n - p ≡ 0 = omega arith in
    rw e refl

pub padded_full : (capacity : ℕ) (words : List ℕ) → length words ≡ capacity → words ≡ padded capacity words
unfolding padded
padded_full capacity words h =
    let e : capacity - length words ≡ 0 = omega arith in
    rw e (sym (append-nil words))

pub padded_first : (capacity : ℕ) (words one new : List ℕ) → length words < capacity → one ≡ words ++ 129 ∷ []
    → new ≡ one ++ pads_from (length one + 1) (capacity + 1 - (length one + 1)) → new ≡ padded capacity words
unfolding padded
padded_first capacity words one new h e f =
    let n : capacity - length words ≡ suc (capacity - (length words + 1)) = omega arith in
    let long : length one ≡ length words + 1 = omega (arith, ap length e, length-append words (129 ∷ [])) in
    let left : capacity + 1 - (length one + 1) ≡ capacity - (length words + 1) = omega arith in
    f ∙ ap (λ k. one ++ pads_from (length one + 1) k) left ∙ ap (λ k. one ++ pads_from (k + 1) (capacity - (length words + 1))) long
    ∙ ap (λ l. l ++ pads_from (length words + 1 + 1) (capacity - (length words + 1))) e
    ∙ append_assoc words (129 ∷ []) (pads_from (length words + 1 + 1) (capacity - (length words + 1)))
    ∙ ap (λ k. words ++ pads (length words + 1) k) (sym n)
