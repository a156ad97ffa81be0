-- A scalar value written in UTF-8 is read back, and a well-formed sequence is that of its scalar value.
use Rattle.std.proofs.Common.{◌≡◌, ◌≢◌, ◌==◌, ℕ, ◌+◌, ◌*◌, ◌/◌, ◌%◌, ◌<◌, ◌≤◌, ◌⊎◌, inl, inr, ◌&&◌, ◌||◌, Bool, true, false, List, [], ◌∷◌, refl, sym, ap, ◌∙◌, arith}
use Rattle.std.proofs.lemmas.Bool.Decides.{nat_tests}
use Rattle.std.specs.Prelude.{nat_le}
use Rattle.vp_code_tables.specs.Utf8.{Whole, within, part_of, sequence_len, second_fits, later_fits, value_of, is_scalar, utf8}
use Rattle.vp_code_tables.proofs.Utf8Parts.{both, whole-fits, whole-long, most_four}
use Rattle.vp_code_tables.proofs.Utf8Values.{le-true, le-false, true-le, false-le, true-within, within-true, whole-1, whole-2, whole-3, whole-4, IsSecond, one-len, two-len, three-len, four-len, true-second, true-later}

-- how large a scalar value is
data Size (v : ℕ) : Type 0 where
  Of1 : v ≤ 0x7f → Size v
  Of2 : 0x7f < v → v ≤ 0x7ff → Size v
  Of3 : 0x7ff < v → v ≤ 0xffff → (v ≤ 0xd7ff) ⊎ (0xe000 ≤ v) → Size v
  Of4 : 0xffff < v → v ≤ 0x10ffff → Size v

size_of : (v : ℕ) → is_scalar v ≡ true → Size v
size_of v e = by_test (nat_le v 0xd7ff) refl e
  where
    high : 0xe000 ≤ v → v ≤ 0x10ffff → Size v
    high l h = by_test (nat_le v 0xffff) refl
      where
        by_test : (so : Bool) → nat_le v 0xffff ≡ so → Size v
        by_test true f = let x = true-le v 0xffff f in Of3 (omega arith) x (inr l)
        by_test false f = let x = false-le v 0xffff f in Of4 x h

    low : v ≤ 0xd7ff → Size v
    low h = by_tests (nat_le v 0x7f) (nat_le v 0x7ff) refl refl
      where
        by_tests : (one two : Bool) → nat_le v 0x7f ≡ one → nat_le v 0x7ff ≡ two → Size v
        by_tests true two f g = Of1 (true-le v 0x7f f)
        by_tests false true f g = Of2 (false-le v 0x7f f) (true-le v 0x7ff g)
        by_tests false false f g = Of3 (false-le v 0x7ff g) (omega arith) (inl h)

    by_test : (so : Bool) → nat_le v 0xd7ff ≡ so → (so || within 0xe000 0x10ffff v) ≡ true → Size v
    by_test true f g = low (true-le v 0xd7ff f)
    by_test false f g = let r = true-within 0xe000 0x10ffff v g in high r.0 r.1

-- so its bytes are
utf8-1 : (v : ℕ) → v ≤ 0x7f → utf8 v ≡ v ∷ []
unfolding utf8
utf8-1 v h = rw (le-true v 0x7f h) refl

utf8-2 : (v : ℕ) → 0x7f < v → v ≤ 0x7ff → utf8 v ≡ (0xc0 + v / 64) ∷ (0x80 + v % 64) ∷ []
unfolding utf8
utf8-2 v l h = rw (le-false v 0x7f l, le-true v 0x7ff h) refl

utf8-3 : (v : ℕ) → 0x7ff < v → v ≤ 0xffff
    → utf8 v ≡ (0xe0 + v / 4096) ∷ (0x80 + v / 64 % 64) ∷ (0x80 + v % 64) ∷ []
unfolding utf8
utf8-3 v l h =
    let more : 0x7f < v = omega arith in
    rw (le-false v 0x7f more, le-false v 0x7ff l, le-true v 0xffff h) refl

utf8-4 : (v : ℕ) → 0xffff < v
    → utf8 v ≡ (0xf0 + v / 262144) ∷ (0x80 + v / 4096 % 64) ∷ (0x80 + v / 64 % 64) ∷ (0x80 + v % 64) ∷ []
unfolding utf8
utf8-4 v l =
    let more : 0x7f < v = omega arith in
    let more2 : 0x7ff < v = omega arith in
    rw (le-false v 0x7f more, le-false v 0x7ff more2, le-false v 0xffff l) refl

-- no value is a surrogate
no_surrogate : (v : ℕ) → (v ≤ 0xd7ff) ⊎ (0xe000 ≤ v) → 0xe0 + v / 4096 ≡ 0xed → 0x80 + v / 64 % 64 ≤ 0x9f
no_surrogate v (inl h) e = omega arith
no_surrogate v (inr h) e = omega arith

-- written and read
pub whole : (v : ℕ) → is_scalar v ≡ true → part_of (utf8 v) ≡ Whole
whole v e = by_size (size_of v e)
  where
    by_size : Size v → part_of (utf8 v) ≡ Whole
    by_size (Of1 h) = ap part_of (utf8-1 v h) ∙ whole-1 v h
    by_size (Of2 l h) = ap part_of (utf8-2 v l h)
        ∙ whole-2 (0xc0 + v / 64) (0x80 + v % 64) (omega arith) (omega arith) (omega arith) (omega arith)
    by_size (Of3 l h s) =
        let second : IsSecond (0xe0 + v / 4096) (0x80 + v / 64 % 64) = record {
          low = omega arith;
          high = omega arith;
          three = λ x. omega arith;
          surrogate = no_surrogate v s;
          four = λ x. omega arith;
          last = λ x. omega arith;
        } in
        ap part_of (utf8-3 v l h)
        ∙ whole-3 (0xe0 + v / 4096) (0x80 + v / 64 % 64) (0x80 + v % 64) (omega arith) (omega arith) second
        (omega arith) (omega arith)
    by_size (Of4 l h) =
        let second : IsSecond (0xf0 + v / 262144) (0x80 + v / 4096 % 64) = record {
          low = omega arith;
          high = omega arith;
          three = λ x. omega arith;
          surrogate = λ x. omega arith;
          four = λ x. omega arith;
          last = λ x. omega arith;
        } in
        ap part_of (utf8-4 v l)
        ∙ whole-4 (0xf0 + v / 262144) (0x80 + v / 4096 % 64) (0x80 + v / 64 % 64) (0x80 + v % 64)
        (omega arith) (omega arith) second (omega arith) (omega arith) (omega arith) (omega arith)

pub value : (v : ℕ) → is_scalar v ≡ true → value_of (utf8 v) ≡ v
value v e = by_size (size_of v e)
  where
    by_size : Size v → value_of (utf8 v) ≡ v
    by_size (Of1 h) = ap value_of (utf8-1 v h)
    by_size (Of2 l h) = ap value_of (utf8-2 v l h) ∙ omega arith
    by_size (Of3 l h s) = ap value_of (utf8-3 v l h) ∙ omega arith
    by_size (Of4 l h) = ap value_of (utf8-4 v l) ∙ omega arith

-- read and written
record Scalar (bytes : List ℕ) : Type 0 where
  scalar : is_scalar (value_of bytes) ≡ true
  same : utf8 (value_of bytes) ≡ bytes

plain : (v : ℕ) → v ≤ 0xd7ff → is_scalar v ≡ true
plain v h = ap (λ (x : Bool). x || within 0xe000 0x10ffff v) (le-true v 0xd7ff h)

beyond : (v : ℕ) → 0xe000 ≤ v → v ≤ 0x10ffff → is_scalar v ≡ true
beyond v l h =
    let more : 0xd7ff < v = omega arith in
    ap (λ (x : Bool). x || within 0xe000 0x10ffff v) (le-false v 0xd7ff more) ∙ within-true 0xe000 0x10ffff v l h

scalar-1 : (a : ℕ) → sequence_len a ≡ 1 → Scalar (a ∷ [])
scalar-1 a e =
    let h = one-len a e in
    record { scalar = plain a (omega arith); same = utf8-1 a h }

list-2 : (a b c d : ℕ) → a ≡ c → b ≡ d → a ∷ b ∷ [] ≡ c ∷ d ∷ []
list-2 a b c d e f = ap (λ (x : ℕ). x ∷ b ∷ []) e ∙ ap (λ (x : ℕ). c ∷ x ∷ []) f

scalar-2 : (a b : ℕ) → sequence_len a ≡ 2 → IsSecond a b → Scalar (a ∷ b ∷ [])
scalar-2 a b e second =
    let first = two-len a e in
    let l = first.0 in
    let h = first.1 in
    let low = second.low in
    let high = second.high in
    let v = a % 32 * 64 + b % 64 in
    record {
      scalar = plain v (omega arith);
      same = utf8-2 v (omega arith) (omega arith) ∙ list-2 (0xc0 + v / 64) (0x80 + v % 64) a b (omega arith) (omega arith);
    }

list-3 : (a b c d e f : ℕ) → a ≡ d → b ≡ e → c ≡ f → a ∷ b ∷ c ∷ [] ≡ d ∷ e ∷ f ∷ []
list-3 a b c d e f x y z = ap (λ (n : ℕ). n ∷ b ∷ c ∷ []) x ∙ ap (λ (xs : List ℕ). d ∷ xs) (list-2 b c e f y z)

scalar-3 : (a b c : ℕ) → sequence_len a ≡ 3 → IsSecond a b → later_fits c ≡ true → Scalar (a ∷ b ∷ c ∷ [])
scalar-3 a b c e second later =
    let first = three-len a e in
    let l = first.0 in
    let h = first.1 in
    let low = second.low in
    let high = second.high in
    let third = true-later c later in
    let low3 = third.0 in
    let high3 = third.1 in
    let v = (a % 16 * 64 + b % 64) * 64 + c % 64 in
    let more : 0x7ff < v = by_least (a == 0xe0) refl in
    record {
      scalar = by_place (nat_le v 0xd7ff) refl;
      same = utf8-3 v more (omega arith)
          ∙ list-3 (0xe0 + v / 4096) (0x80 + v / 64 % 64) (0x80 + v % 64) a b c (omega arith) (omega arith) (omega arith);
    }
  where
    by_least : (so : Bool) → (a == 0xe0) ≡ so → 0x7ff < (a % 16 * 64 + b % 64) * 64 + c % 64
    by_least true e0 =
        let x : a ≡ 0xe0 = grind (arith, nat_tests, e0) in
        let y = second.three x in
        let z = second.high in
        omega arith
    by_least false e0 =
        let x : a ≢ 0xe0 = λ is. grind (arith, nat_tests, e0, is) in
        let first = three-len a e in
        let l = first.0 in
        let h = first.1 in
        omega arith

    by_place : (so : Bool) → nat_le ((a % 16 * 64 + b % 64) * 64 + c % 64) 0xd7ff ≡ so
        → is_scalar ((a % 16 * 64 + b % 64) * 64 + c % 64) ≡ true
    by_place true p = plain ((a % 16 * 64 + b % 64) * 64 + c % 64) (true-le ((a % 16 * 64 + b % 64) * 64 + c % 64) 0xd7ff p)
    by_place false p =
        let v = (a % 16 * 64 + b % 64) * 64 + c % 64 in
        let past = false-le v 0xd7ff p in
        let first = three-len a e in
        let l = first.0 in
        let h = first.1 in
        let low = second.low in
        let high = second.high in
        beyond v (no_low (a == 0xed) refl past) (omega arith)
      where
        no_low : (so : Bool) → (a == 0xed) ≡ so → 0xd7ff < (a % 16 * 64 + b % 64) * 64 + c % 64
            → 0xe000 ≤ (a % 16 * 64 + b % 64) * 64 + c % 64
        no_low true ed past =
            let x : a ≡ 0xed = grind (arith, nat_tests, ed) in
            let y = second.surrogate x in
            let z = second.low in
            absurd (omega arith)
        no_low false ed past =
            let x : a ≢ 0xed = λ is. grind (arith, nat_tests, ed, is) in
            let first = three-len a e in
            let l = first.0 in
            let h = first.1 in
            omega arith

list-4 : (a b c d e f g h : ℕ) → a ≡ e → b ≡ f → c ≡ g → d ≡ h → a ∷ b ∷ c ∷ d ∷ [] ≡ e ∷ f ∷ g ∷ h ∷ []
list-4 a b c d e f g h x y z w = ap (λ (n : ℕ). n ∷ b ∷ c ∷ d ∷ []) x ∙ ap (λ (xs : List ℕ). e ∷ xs) (list-3 b c d f g h y z w)

scalar-4 : (a b c d : ℕ) → sequence_len a ≡ 4 → IsSecond a b → later_fits c ≡ true → later_fits d ≡ true
    → Scalar (a ∷ b ∷ c ∷ d ∷ [])
scalar-4 a b c d e second later last =
    let first = four-len a e in
    let l = first.0 in
    let h = first.1 in
    let low = second.low in
    let high = second.high in
    let third = true-later c later in
    let low3 = third.0 in
    let high3 = third.1 in
    let fourth = true-later d last in
    let low4 = fourth.0 in
    let high4 = fourth.1 in
    let v = ((a % 8 * 64 + b % 64) * 64 + c % 64) * 64 + d % 64 in
    let more : 0xffff < v = by_least (a == 0xf0) refl in
    let most : v ≤ 0x10ffff = by_most (a == 0xf4) refl in
    record {
      scalar = beyond v (omega arith) most;
      same = utf8-4 v more
          ∙ list-4 (0xf0 + v / 262144) (0x80 + v / 4096 % 64) (0x80 + v / 64 % 64) (0x80 + v % 64) a b c d
          (omega arith) (omega arith) (omega arith) (omega arith);
    }
  where
    by_least : (so : Bool) → (a == 0xf0) ≡ so → 0xffff < ((a % 8 * 64 + b % 64) * 64 + c % 64) * 64 + d % 64
    by_least true f0 =
        let x : a ≡ 0xf0 = grind (arith, nat_tests, f0) in
        let y = second.four x in
        let z = second.high in
        omega arith
    by_least false f0 =
        let x : a ≢ 0xf0 = λ is. grind (arith, nat_tests, f0, is) in
        let first = four-len a e in
        let l = first.0 in
        let h = first.1 in
        omega arith

    by_most : (so : Bool) → (a == 0xf4) ≡ so → ((a % 8 * 64 + b % 64) * 64 + c % 64) * 64 + d % 64 ≤ 0x10ffff
    by_most true f4 =
        let x : a ≡ 0xf4 = grind (arith, nat_tests, f4) in
        let y = second.last x in
        let z = second.low in
        omega arith
    by_most false f4 =
        let x : a ≢ 0xf4 = λ is. grind (arith, nat_tests, f4, is) in
        let first = four-len a e in
        let l = first.0 in
        let h = first.1 in
        omega arith

-- of any length
of_whole : (bytes : List ℕ) → part_of bytes ≡ Whole → Scalar bytes
of_whole [] e = cc
of_whole (a ∷ []) e = scalar-1 a (sym (whole-long a [] e))
of_whole (a ∷ b ∷ []) e =
    scalar-2 a b (sym (whole-long a (b ∷ []) e)) (true-second a b (both (second_fits a b) true (whole-fits a (b ∷ []) e)).0)
of_whole (a ∷ b ∷ c ∷ []) e =
    let fits = both (second_fits a b) (later_fits c && true) (whole-fits a (b ∷ c ∷ []) e) in
    scalar-3 a b c (sym (whole-long a (b ∷ c ∷ []) e)) (true-second a b fits.0) (both (later_fits c) true fits.1).0
of_whole (a ∷ b ∷ c ∷ d ∷ []) e =
    let fits = both (second_fits a b) (later_fits c && (later_fits d && true)) (whole-fits a (b ∷ c ∷ d ∷ []) e) in
    let later = both (later_fits c) (later_fits d && true) fits.1 in
    scalar-4 a b c d (sym (whole-long a (b ∷ c ∷ d ∷ []) e)) (true-second a b fits.0) later.0
    (both (later_fits d) true later.1).0
of_whole (a ∷ b ∷ c ∷ d ∷ f ∷ more) e =
    let long = whole-long a (b ∷ c ∷ d ∷ f ∷ more) e in
    let most = most_four a in
    absurd (omega arith)

pub scalar : (bytes : List ℕ) → part_of bytes ≡ Whole → is_scalar (value_of bytes) ≡ true
scalar bytes e = (of_whole bytes e).scalar

pub back : (bytes : List ℕ) → part_of bytes ≡ Whole → utf8 (value_of bytes) ≡ bytes
back bytes e = (of_whole bytes e).same
