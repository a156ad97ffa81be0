-- Words and lines without a dot.
use Rattle.std.proofs.Common.{inl, inr, ◌≡◌, ℕ, ◌<◌, ◌≤◌, Bool, true, false, ltb, ◌&&◌, ap, sym, ◌∙◌, arith, List, [], length}
use Rattle.std.proofs.lemmas.List.{get_or_past}
use Rattle.std.proofs.lemmas.Bool.{cases_lt, lt-ltb, le-ltb, true≢false}
use Rattle.std.proofs.lemmas.Nat.Bits.{bit_at-zero}
use Rattle.vp_dots.specs.Dots.{bit, dot}
use Rattle.vp_dots.specs.Words.{word_dot}
use Rattle.vp_page.specs.declared.line.TheConstants.{LINE_BYTES, LINE_DOTS}
use Rattle.vp_page.specs.Lines.{line_dot}
use Rattle.vp_page.proofs.Rows.{dot_past}

pub and_false : (b : Bool) → (b && false) ≡ false
and_false b = grind arith

pub white_word : (x : ℕ) → word_dot 0 x ≡ false
unfolding bit
white_word x = grind (arith, lt-ltb, bit_at-zero, le-ltb)

-- where there is no line there is no dot
pub no_line : (lines : List (List ℕ)) (i u : ℕ) → length lines ≤ i → line_dot lines i u ≡ false
no_line lines i u h = rw (get_or_past {X = List ℕ} lines i [] h) (ap (λ b. ltb u LINE_DOTS && b) (dot_past [] u (omega arith)) ∙ and_false (ltb u LINE_DOTS))

pub some_line : (lines : List (List ℕ)) (i u : ℕ) → line_dot lines i u ≡ true → i < length lines
some_line lines i u e = elim (cases_lt i (length lines)) [
  | inl l ↦ l
  | inr g ↦ absurd (true≢false (sym e ∙ no_line lines i u g))
]

-- nor past the longest line
pub past_line : (line : List ℕ) (u : ℕ) → length line ≤ LINE_BYTES → dot line u ≡ (ltb u LINE_DOTS && dot line u)
past_line line u short = grind (arith, lt-ltb, le-ltb, dot_past)
