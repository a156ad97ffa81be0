-- Words whose dots are drawn several times as wide.
use Rattle.std.proofs.Common.{inl, inr, ◌≡◌, ℕ, ◌+◌, ◌-◌, ◌*◌, ◌/◌, ◌%◌, ◌^◌, ◌<◌, ◌≤◌, Bool, true, false, cond, eqb, ltb, leb, ◌&&◌, ◌||◌, refl, sym, ap, ◌∙◌, arith, bit_and, bit_or}
use Rattle.std.proofs.Math.Nat.{mul-le-mul_right}
use Rattle.std.proofs.lemmas.Bool.{cases_lt, lt-ltb, le-ltb, lt-leb, le-leb, ltb-true}
use Rattle.std.proofs.lemmas.Bool.Decides.{nat_tests}
use Rattle.vp_dots.specs.Dots.{bit, span}
use Rattle.vp_dots.specs.Words.{word_dot}
use Rattle.vp_dots.proofs.Swaps.{every, every_at}
use Rattle.vp_glyph.proofs.Looks.{and_dot, or_dot}
use Rattle.vp_glyph.proofs.Moved.{moved_right}
use Rattle.vp_glyph.proofs.Parts.{place_within, some_width}
use Rattle.vp_glyph.proofs.Spread.{quotient}

-- a word and the same moved to the right, at the dots of a mask
pub spread_dot : (word far mask x : ℕ) → word < 2 ^ 64 → x < 64 → word_dot (bit_and (bit_or word (word / 2 ^ far)) mask) x ≡ ((word_dot word x || leb far x && word_dot word (x - far)) && word_dot mask x)
spread_dot word far mask x p h = grind (arith, and_dot, or_dot, moved_right)

-- which of twelve dots stands on dot x, where n of them and n white ones take turns; past the word where none does
abbrev place : ℕ → ℕ → ℕ
place n x = cond (ltb (x % (2 * n)) n && ltb (x / (2 * n) * n + x % n) 12) (x / (2 * n) * n + x % n) 64

-- and where each of them stands twice
abbrev twice : ℕ → ℕ
twice x = cond (ltb x 24) (x / 2) 64

-- whether dot c stands on a dot of a spread word: m whether the mask has it, and a and b the dots that stood there and so far on the left, if l
abbrev comes : Bool → Bool → ℕ → ℕ → ℕ → Bool
comes m l a b c = cond m (cond l (cond (eqb a 64) (eqb b c) (eqb a c && eqb b 64)) (eqb a c)) (eqb c 64)

or_false : (b : Bool) → (b || false) ≡ b
or_false b = grind arith

came : (f : ℕ → Bool) (m l : Bool) (a b c : ℕ) → f 64 ≡ false → comes m l a b c ≡ true → ((f a || l && f b) && m) ≡ f c
came f m l a b c h1 h2 = grind arith

-- a step to the right, where each dot comes from one that p tells before it, and from one that q tells behind it
abbrev comes_at : (ℕ → ℕ) → (ℕ → ℕ) → ℕ → ℕ → ℕ → Bool
comes_at p q far mask x = comes (word_dot mask x) (leb far x) (p x) (p (x - far)) (q x)

spread_place : (word : ℕ) (p q : ℕ → ℕ) (far mask old new : ℕ) → every 64 (comes_at p q far mask) ≡ true → ((x : ℕ) → x < 64 → word_dot old x ≡ word_dot word (p x))
    → ((x : ℕ) → x < 64 → word_dot new x ≡ ((word_dot old x || leb far x && word_dot old (x - far)) && word_dot mask x))
    → (x : ℕ) → x < 64 → word_dot new x ≡ word_dot word (q x)
spread_place word p q far mask old new t o n x h =
    n x h ∙ ap (λ b. (b || leb far x && word_dot old (x - far)) && word_dot mask x) (o x h) ∙ ap (λ b. (word_dot word (p x) || leb far x && b) && word_dot mask x) (o (x - far) (omega arith))
    ∙ came (word_dot word) (word_dot mask x) (leb far x) (p x) (p (x - far)) (q x) refl (every_at 64 (comes_at p q far mask) t x h)

twelve_test : every 64 (λ y. comes (word_dot 0xfff0_0000_0000_0000 y) false y 0 (place 16 y)) ≡ true
unfolding bit
twelve_test = refl

-- the first twelve dots alone
twelve_place : (word twelve : ℕ) → ((x : ℕ) → word_dot twelve x ≡ (word_dot word x && word_dot 0xfff0_0000_0000_0000 x)) → (x : ℕ) → x < 64 → word_dot twelve x ≡ word_dot word (place 16 x)
twelve_place word twelve e x h =
    e x ∙ ap (λ b. b && word_dot 0xfff0_0000_0000_0000 x) (sym (or_false (word_dot word x)))
    ∙ came (word_dot word) (word_dot 0xfff0_0000_0000_0000 x) false x 0 (place 16 x) refl (every_at 64 (λ y. comes (word_dot 0xfff0_0000_0000_0000 y) false y 0 (place 16 y)) twelve_test x h)

eights_test : every 64 (comes_at (place 16) (place 8) 8 0xff00_ff00_0000_0000) ≡ true
unfolding bit
eights_test = refl

fours_test : every 64 (comes_at (place 8) (place 4) 4 0xf0f0_f0f0_0000_0000) ≡ true
unfolding bit
fours_test = refl

twos_test : every 64 (comes_at (place 4) (place 2) 2 0xcccc_cccc_0000_0000) ≡ true
unfolding bit
twos_test = refl

ones_test : every 64 (comes_at (place 2) (place 1) 1 0xaaaa_aaaa_0000_0000) ≡ true
unfolding bit
ones_test = refl

twice_test : every 64 (comes_at (place 1) twice 1 0xffff_ffff_ffff_ffff) ≡ true
unfolding bit
twice_test = refl

-- the steps by which twelve dots are drawn two dots wide
pub doubled_dot : (word twelve eights fours twos ones new : ℕ)
    → ((x : ℕ) → word_dot twelve x ≡ (word_dot word x && word_dot 0xfff0_0000_0000_0000 x))
    → ((x : ℕ) → x < 64 → word_dot eights x ≡ ((word_dot twelve x || leb 8 x && word_dot twelve (x - 8)) && word_dot 0xff00_ff00_0000_0000 x))
    → ((x : ℕ) → x < 64 → word_dot fours x ≡ ((word_dot eights x || leb 4 x && word_dot eights (x - 4)) && word_dot 0xf0f0_f0f0_0000_0000 x))
    → ((x : ℕ) → x < 64 → word_dot twos x ≡ ((word_dot fours x || leb 2 x && word_dot fours (x - 2)) && word_dot 0xcccc_cccc_0000_0000 x))
    → ((x : ℕ) → x < 64 → word_dot ones x ≡ ((word_dot twos x || leb 1 x && word_dot twos (x - 1)) && word_dot 0xaaaa_aaaa_0000_0000 x))
    → ((x : ℕ) → x < 64 → word_dot new x ≡ ((word_dot ones x || leb 1 x && word_dot ones (x - 1)) && word_dot 0xffff_ffff_ffff_ffff x))
    → (x : ℕ) → word_dot new x ≡ (ltb x 24 && word_dot word (x / 2))
doubled_dot word twelve eights fours twos ones new a b c d e f x = elim (cases_lt x 64) [
  | inl l ↦
      spread_place word (place 1) twice 1 0xffff_ffff_ffff_ffff ones new twice_test
      (spread_place word (place 2) (place 1) 1 0xaaaa_aaaa_0000_0000 twos ones ones_test
      (spread_place word (place 4) (place 2) 2 0xcccc_cccc_0000_0000 fours twos twos_test
      (spread_place word (place 8) (place 4) 4 0xf0f0_f0f0_0000_0000 eights fours fours_test
      (spread_place word (place 16) (place 8) 8 0xff00_ff00_0000_0000 twelve eights eights_test (twelve_place word twelve a) b) c) d) e) f x l
      ∙ elim (cases_lt x 24) as (λ _. word_dot word (twice x) ≡ (ltb x 24 && word_dot word (x / 2))) [
        | inl m ↦ rw (lt-ltb x 24 m) refl
        | inr g ↦ rw (le-ltb x 24 g) refl
      ]
  | inr g ↦ rw (le-ltb x 64 g, le-ltb x 24 (omega arith)) refl
]

pub mask_moved : (dots s wm x : ℕ) → dots < 2 ^ 64 → ((y : ℕ) → word_dot dots y ≡ (ltb y 64 && span (s * wm) (s * wm + wm) y))
    → word_dot (dots / 2 ^ wm) x ≡ (ltb x 64 && span ((s + 1) * wm) ((s + 1) * wm + wm) x)
mask_moved dots s wm x p e = grind (arith, nat_tests, moved_right)

pub magnified_none : (word wm x : ℕ) → false ≡ (ltb x (0 * wm) && word_dot word (x / wm))
magnified_none word wm x = rw (le-ltb x (0 * wm) (omega arith)) refl

module _ (n word wm : ℕ) (few : n * wm ≤ 64) where
  -- one more dot
  pub magnified_more : (wide more new dots s x : ℕ) → s < n → word_dot wide x ≡ (ltb x (s * wm) && word_dot word (x / wm))
      → word_dot more x ≡ (word_dot word s && word_dot dots x) → word_dot dots x ≡ (ltb x 64 && span (s * wm) (s * wm + wm) x)
      → new ≡ bit_or wide more → word_dot new x ≡ (ltb x ((s + 1) * wm) && word_dot word (x / wm))
  magnified_more wide more new dots s x h p q d e = grind (arith, mul-le-mul_right, or_dot, cases_lt, lt-ltb, lt-leb, quotient, le-leb)

-- so many dots of a row from one on
pub widened_row : (word moved wide first n wm x : ℕ) → n ≤ 12 → first ≤ 12 → ((d : ℕ) → d < 64 → word_dot moved d ≡ word_dot word (d + first))
    → word_dot wide x ≡ (ltb x (n * wm) && word_dot moved (x / wm)) → word_dot wide x ≡ (ltb x (n * wm) && word_dot word (first + x / wm))
widened_row word moved wide first n wm x few inside e p = p ∙ elim (cases_lt x (n * wm)) [
  | inl l ↦
      let place : x / wm < n = ltb-true (x / wm) n (place_within x n wm (some_width x n wm l) ∙ lt-ltb x (n * wm) l) in
      let next : x / wm + first ≡ first + x / wm = omega arith in
      ap (λ b. ltb x (n * wm) && b) (e (x / wm) (omega arith) ∙ ap (word_dot word) next)
  | inr g ↦ rw (le-ltb x (n * wm) g) refl
]
