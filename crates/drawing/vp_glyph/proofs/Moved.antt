-- Words moved by any number of dots.
use Rattle.std.proofs.Common.{◌≡◌, ℕ, ◌+◌, ◌-◌, ◌*◌, ◌/◌, ◌%◌, ◌^◌, ◌<◌, ◌≤◌, Bool, ltb, leb, ◌&&◌, refl, sym, ◌∙◌, arith, List, length, ℤ, pos}
use Rattle.std.proofs.lemmas.Bool.{lt-ltb, le-ltb, lt-leb}
use Rattle.vp_dots.specs.Dots.{shifted}
use Rattle.vp_dots.specs.Words.{word_dot}
use Rattle.vp_dots.specs.Painting.{Painted}
use Rattle.vp_dots.specs.declared.Op.{Op}
use Rattle.vp_dots.proofs.Cuts.{bit_low64}
use Rattle.vp_dots.proofs.Words.{and_false, bit_shl, word_shr}
use Rattle.vp_glyph.proofs.Drawn.{moved_none}
use Rattle.vp_glyph.proofs.Looks.{white_dot}
use Rattle.vp_glyph.proofs.Spread.{ink}

module _ (word far x : ℕ) (h : x < 64) where
  -- to the right
  pub moved_right : word < 2 ^ 64 → word_dot (word / 2 ^ far) x ≡ (leb far x && word_dot word (x - far))
  moved_right p = rw (lt-ltb x 64 h, lt-ltb (x - far) 64 (omega arith)) (word_shr word far x p h)

  pub gone_right : 64 ≤ far → word_dot 0 x ≡ (leb far x && word_dot word (x - far))
  gone_right l = white_dot x ∙ sym (rw (lt-leb far x (omega arith)) refl)

  -- to the left
  pub moved_left : word_dot (word * 2 ^ far % 2 ^ 64) x ≡ word_dot word (x + far)
  moved_left = grind (arith, bit_low64, bit_shl)

  pub gone_left : 64 ≤ far → word_dot 0 x ≡ word_dot word (x + far)
  gone_left l = white_dot x ∙ sym (rw (le-ltb (x + far) 64 (omega arith)) refl)

module _ (op : Op) (at : ℤ) where
  -- ink painted by its front on a row that is no longer than a word
  pub short_row : (f : ℕ → Bool) (word : ℕ) (a b : List ℕ) → length a ≤ 8 → ((x : ℕ) → x < 64 → word_dot word x ≡ shifted at f x)
      → Painted op (shifted (pos 0) (word_dot word)) a b → Painted op (shifted at f) a b
  short_row f word a b l h p = grind arith

  -- a white word
  pub white_word : (word left width : ℕ) (row : List ℕ) → word ≡ 0 → Painted op (shifted at (ink 12 (word_dot word) left width)) row row
  white_word word left width row e = moved_none op at (ink 12 (word_dot word) left width) row (λ x. rw (e, white_dot ((x - left) * 12 / width)) (and_false (leb left x && ltb (x - left) width)))
