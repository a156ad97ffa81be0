-- Rows of characters as words.
use Rattle.std.proofs.Common.{inl, inr, ◌≡◌, ℕ, ◌+◌, ◌-◌, ◌*◌, ◌/◌, ◌%◌, ◌^◌, ◌<◌, Bool, true, false, not, cond, eqb, ltb, leb, ◌&&◌, ◌||◌, eq-eqb, refl, sym, ap, ◌∙◌, arith, bit_and, bit_or}
use Rattle.std.proofs.lemmas.Nat.{pow_below}
use Rattle.std.proofs.lemmas.Nat.Bits.{bit_at-pow_same, bit_at-pow_other, shr_and_one}
use Rattle.std.proofs.lemmas.Bool.{cases_eq, cases_lt, ne_eqb, lt-ltb, le-ltb}
use Rattle.vp_dots.specs.Dots.{bit}
use Rattle.vp_dots.specs.Words.{word_dot}
use Rattle.vp_dots.proofs.Bits.{bit_of_or}
use Rattle.vp_dots.proofs.Spans.{bit_of_and}
use Rattle.vp_dots.proofs.Words.{word_shr}
use Rattle.vp_dots.proofs.Cuts.{bit_not64}

or_is : (a b : Bool) → cond b true a ≡ (a || b)
or_is a b = grind arith

pub thick_dot : (w x : ℕ) → w < 2 ^ 64 → x < 64 → word_dot (bit_or w (w / 2)) x ≡ (word_dot w x || ltb 0 x && word_dot w (x - 1))
thick_dot w x p h = rw (lt-ltb x 64 h, lt-ltb (x - 1) 64 (omega arith)) (bit_of_or w (w / 2) (63 - x) ∙ ap (λ b. cond b true (bit w (63 - x))) (word_shr w 1 x p h) ∙ or_is (bit w (63 - x)) (leb 1 x && bit w (63 - (x - 1))))

pub not_dot : (w x : ℕ) → w < 2 ^ 64 → x < 64 → word_dot (2 ^ 64 - 1 - w) x ≡ not (word_dot w x)
not_dot w x p h = rw (lt-ltb x 64 h) (bit_not64 w (63 - x) p (omega arith))

pub and_dot : (v w x : ℕ) → word_dot (bit_and v w) x ≡ (word_dot v x && word_dot w x)
and_dot v w x = grind (arith, bit_of_and)

pub or_dot : (v w x : ℕ) → word_dot (bit_or v w) x ≡ (word_dot v x || word_dot w x)
or_dot v w x = grind (arith, bit_of_or)

pub white_dot : (x : ℕ) → word_dot 0 x ≡ false
unfolding bit
white_dot x = grind arith

-- the dot as the code reads it
pub dot_read : (word x : ℕ) → x < 64 → eqb (bit_and (word / 2 ^ (63 - x)) 1) 1 ≡ word_dot word x
unfolding bit
dot_read word x h = rw (shr_and_one word (63 - x), lt-ltb x 64 h) refl

-- one dot alone
pub alone_dot : (x d : ℕ) → x < 64 → word_dot (1 * 2 ^ (63 - x) % 2 ^ 64) d ≡ eqb d x
unfolding bit
alone_dot x d h =
    let e : 1 * 2 ^ (63 - x) % 2 ^ 64 ≡ 2 ^ (63 - x) = omega (arith, pow_below (63 - x) 64 (omega arith)) in
    rw e (elim (cases_lt d 64) [
      | inl l ↦ rw (lt-ltb d 64 l) (elim (cases_eq d x) [
        | inl y ↦ rw (eq-eqb d x y, y) (ap (λ b. eqb b 1) (bit_at-pow_same (63 - x)))
        | inr n ↦ rw (ne_eqb d x n) (ap (λ b. eqb b 1) (bit_at-pow_other (63 - x) (63 - d) (λ s. n (omega arith))))
      ])
      | inr g ↦ rw (le-ltb d 64 g) (sym (ne_eqb d x (λ y. absurd (omega arith))))
    ])

-- a dot more of a row
pub dot_more : (f : ℕ → Bool) (nine new x d : ℕ) → x < 64 → word_dot nine d ≡ (ltb d x && f d) → new ≡ bit_or nine (1 * 2 ^ (63 - x) % 2 ^ 64) → f x ≡ true → word_dot new d ≡ (ltb d (x + 1) && f d)
dot_more f nine new x d h p e t = grind (arith, or_dot, alone_dot)

pub dot_less : (f : ℕ → Bool) (nine x d : ℕ) → word_dot nine d ≡ (ltb d x && f d) → f x ≡ false → word_dot nine d ≡ (ltb d (x + 1) && f d)
dot_less f nine x d p t = grind arith
