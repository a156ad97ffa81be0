-- Scalar values and their sequences in UTF-8.
use Rattle.std.proofs.Common.{◌≡◌, ℕ, ◌<◌, ◌≤◌, ◌==◌, ◌&&◌, Bool, true, false, if◌then◌else◌, [], ◌∷◌, refl, sym, ap, ◌∙◌, arith}
use Rattle.std.proofs.lemmas.Bool.Decides.{nat_tests}
use Rattle.std.specs.Prelude.{nat_le}
use Rattle.vp_code_tables.specs.Utf8.{Whole, within, part_of, sequence_len, second_fits, later_fits}
use Rattle.vp_code_tables.proofs.Utf8Parts.{both, part-whole}

pub le-true : (a b : ℕ) → a ≤ b → nat_le a b ≡ true
le-true a b h = grind (arith, nat_tests, h)

pub le-false : (a b : ℕ) → b < a → nat_le a b ≡ false
le-false a b h = grind (arith, nat_tests, h)

pub true-le : (a b : ℕ) → nat_le a b ≡ true → a ≤ b
true-le a b e = grind (arith, nat_tests, e)

pub false-le : (a b : ℕ) → nat_le a b ≡ false → b < a
false-le a b e = grind (arith, nat_tests, e)

pub within-true : (first last b : ℕ) → first ≤ b → b ≤ last → within first last b ≡ true
within-true first last b l h = ap (λ (x : Bool). x && nat_le b last) (le-true first b l) ∙ le-true b last h

pub true-within : (first last b : ℕ) → within first last b ≡ true → (first ≤ b) × (b ≤ last)
true-within first last b e =
    let two = both (nat_le first b) (nat_le b last) e in
    (true-le first b two.0, true-le b last two.1)

-- how long a sequence is, by its first byte
pub len-one : (a : ℕ) → a ≤ 0x7f → sequence_len a ≡ 1
unfolding sequence_len
len-one a h = grind (arith, nat_tests, h)

pub len-two : (a : ℕ) → 0xc2 ≤ a → a ≤ 0xdf → sequence_len a ≡ 2
unfolding sequence_len
len-two a l h = grind (arith, nat_tests, l, h)

pub len-three : (a : ℕ) → 0xe0 ≤ a → a ≤ 0xef → sequence_len a ≡ 3
unfolding sequence_len
len-three a l h = grind (arith, nat_tests, l, h)

pub len-four : (a : ℕ) → 0xf0 ≤ a → a ≤ 0xf4 → sequence_len a ≡ 4
unfolding sequence_len
len-four a l h = grind (arith, nat_tests, l, h)

pub one-len : (a : ℕ) → sequence_len a ≡ 1 → a ≤ 0x7f
unfolding sequence_len
one-len a e = grind (arith, nat_tests, e)

pub two-len : (a : ℕ) → sequence_len a ≡ 2 → (0xc2 ≤ a) × (a ≤ 0xdf)
unfolding sequence_len
two-len a e = (grind (arith, nat_tests, e), grind (arith, nat_tests, e))

pub three-len : (a : ℕ) → sequence_len a ≡ 3 → (0xe0 ≤ a) × (a ≤ 0xef)
unfolding sequence_len
three-len a e = (grind (arith, nat_tests, e), grind (arith, nat_tests, e))

pub four-len : (a : ℕ) → sequence_len a ≡ 4 → (0xf0 ≤ a) × (a ≤ 0xf4)
unfolding sequence_len
four-len a e = (grind (arith, nat_tests, e), grind (arith, nat_tests, e))

-- what a second byte is
pub record IsSecond (a b : ℕ) : Type 0 where
  pub low : 0x80 ≤ b
  pub high : b ≤ 0xbf
  pub three : a ≡ 0xe0 → 0xa0 ≤ b
  pub surrogate : a ≡ 0xed → b ≤ 0x9f
  pub four : a ≡ 0xf0 → 0x90 ≤ b
  pub last : a ≡ 0xf4 → b ≤ 0x8f

pub second-true : (a b : ℕ) → IsSecond a b → second_fits a b ≡ true
unfolding second_fits
second-true a b s = by_test (a == 0xe0) (a == 0xed) (a == 0xf0) (a == 0xf4) refl refl refl refl
  where
    by_test : (e0 ed f0 f4 : Bool) → (a == 0xe0) ≡ e0 → (a == 0xed) ≡ ed → (a == 0xf0) ≡ f0 → (a == 0xf4) ≡ f4
        → (if e0 then within 0xa0 0xbf b else if ed then within 0x80 0x9f b else if f0 then within 0x90 0xbf b
        else if f4 then within 0x80 0x8f b else within 0x80 0xbf b) ≡ true
    by_test true ed f0 f4 e g h i = within-true 0xa0 0xbf b (s.three (grind (arith, nat_tests, e))) s.high
    by_test false true f0 f4 e g h i = within-true 0x80 0x9f b s.low (s.surrogate (grind (arith, nat_tests, g)))
    by_test false false true f4 e g h i = within-true 0x90 0xbf b (s.four (grind (arith, nat_tests, h))) s.high
    by_test false false false true e g h i = within-true 0x80 0x8f b s.low (s.last (grind (arith, nat_tests, i)))
    by_test false false false false e g h i = within-true 0x80 0xbf b s.low s.high

pub true-second : (a b : ℕ) → second_fits a b ≡ true → IsSecond a b
unfolding second_fits
true-second a b e = by_test (a == 0xe0) (a == 0xed) (a == 0xf0) (a == 0xf4) refl refl refl refl e
  where
    from : (first last : ℕ) → within first last b ≡ true → 0x80 ≤ first → last ≤ 0xbf → (a ≡ 0xe0 → 0xa0 ≤ first)
        → (a ≡ 0xed → last ≤ 0x9f) → (a ≡ 0xf0 → 0x90 ≤ first) → (a ≡ 0xf4 → last ≤ 0x8f) → IsSecond a b
    from first last w l h e0 ed f0 f4 =
        let r = true-within first last b w in
        let lo = r.0 in
        let hi = r.1 in
        record {
          low = omega arith;
          high = omega arith;
          three = λ x. let y = e0 x in omega arith;
          surrogate = λ x. let y = ed x in omega arith;
          four = λ x. let y = f0 x in omega arith;
          last = λ x. let y = f4 x in omega arith;
        }

    is : (n : ℕ) → (a == n) ≡ true → a ≡ n
    is n h = grind (arith, nat_tests, h)

    not : (n : ℕ) → (a == n) ≡ false → a ≡ n → ⊥
    not n h x = grind (arith, nat_tests, h, x)

    by_test : (e0 ed f0 f4 : Bool) → (a == 0xe0) ≡ e0 → (a == 0xed) ≡ ed → (a == 0xf0) ≡ f0 → (a == 0xf4) ≡ f4
        → (if e0 then within 0xa0 0xbf b else if ed then within 0x80 0x9f b else if f0 then within 0x90 0xbf b
        else if f4 then within 0x80 0x8f b else within 0x80 0xbf b) ≡ true → IsSecond a b
    by_test true ed f0 f4 p q r s w = let x = is 0xe0 p in from 0xa0 0xbf w (omega arith) (omega arith)
        (λ y. omega arith) (λ y. omega arith) (λ y. omega arith) (λ y. omega arith)
    by_test false true f0 f4 p q r s w = let x = is 0xed q in from 0x80 0x9f w (omega arith) (omega arith)
        (λ y. omega arith) (λ y. omega arith) (λ y. omega arith) (λ y. omega arith)
    by_test false false true f4 p q r s w = let x = is 0xf0 r in from 0x90 0xbf w (omega arith) (omega arith)
        (λ y. omega arith) (λ y. omega arith) (λ y. omega arith) (λ y. omega arith)
    by_test false false false true p q r s w = let x = is 0xf4 s in from 0x80 0x8f w (omega arith) (omega arith)
        (λ y. omega arith) (λ y. omega arith) (λ y. omega arith) (λ y. omega arith)
    by_test false false false false p q r s w = from 0x80 0xbf w (omega arith) (omega arith)
        (λ y. absurd (not 0xe0 p y)) (λ y. absurd (not 0xed q y)) (λ y. absurd (not 0xf0 r y)) (λ y. absurd (not 0xf4 s y))

pub later-true : (b : ℕ) → 0x80 ≤ b → b ≤ 0xbf → later_fits b ≡ true
unfolding later_fits
later-true b l h = within-true 0x80 0xbf b l h

pub true-later : (b : ℕ) → later_fits b ≡ true → (0x80 ≤ b) × (b ≤ 0xbf)
unfolding later_fits
true-later b e = true-within 0x80 0xbf b e

-- sequences by how long they are
pub whole-1 : (a : ℕ) → a ≤ 0x7f → part_of (a ∷ []) ≡ Whole
whole-1 a h = part-whole a [] refl (sym (len-one a h))

pub whole-2 : (a b : ℕ) → 0xc2 ≤ a → a ≤ 0xdf → 0x80 ≤ b → b ≤ 0xbf → part_of (a ∷ b ∷ []) ≡ Whole
whole-2 a b l h low high =
    let second : IsSecond a b = record {
      low = low;
      high = high;
      three = λ e. omega arith;
      surrogate = λ e. omega arith;
      four = λ e. omega arith;
      last = λ e. omega arith;
    } in
    part-whole a (b ∷ []) (ap (λ (x : Bool). x && true) (second-true a b second)) (sym (len-two a l h))

pub whole-3 : (a b c : ℕ) → 0xe0 ≤ a → a ≤ 0xef → IsSecond a b → 0x80 ≤ c → c ≤ 0xbf
    → part_of (a ∷ b ∷ c ∷ []) ≡ Whole
whole-3 a b c l h second low high =
    part-whole a (b ∷ c ∷ [])
    (ap (λ (x : Bool). x && (later_fits c && true)) (second-true a b second)
    ∙ ap (λ (x : Bool). x && true) (later-true c low high)) (sym (len-three a l h))

pub whole-4 : (a b c d : ℕ) → 0xf0 ≤ a → a ≤ 0xf4 → IsSecond a b → 0x80 ≤ c → c ≤ 0xbf → 0x80 ≤ d → d ≤ 0xbf
    → part_of (a ∷ b ∷ c ∷ d ∷ []) ≡ Whole
whole-4 a b c d l h second low high low2 high2 =
    part-whole a (b ∷ c ∷ d ∷ [])
    (ap (λ (x : Bool). x && (later_fits c && (later_fits d && true))) (second-true a b second)
    ∙ ap (λ (x : Bool). x && (later_fits d && true)) (later-true c low high)
    ∙ ap (λ (x : Bool). x && true) (later-true d low2 high2)) (sym (len-four a l h))
