-- Characters drawn from the dots of their rows.
use Rattle.std.proofs.Common.{Bool, List, Option, arith, false, leb, refl, ℕ, ℤ, ◌&&◌, ◌*◌, ◌-◌, ◌/◌, ◌<◌, ◌≡◌, ◌≤◌}
use Rattle.std.proofs.lemmas.Bool.{le-ltb, le-leb}
use Rattle.vp_dots.specs.Dots.{shifted}
use Rattle.vp_dots.specs.Words.{word_dot}
use Rattle.vp_dots.specs.Painting.{Painted}
use Rattle.vp_dots.specs.declared.Op.{Op}
use Rattle.vp_dots.proofs.Moves.{moved_same}
use Rattle.vp_dots.proofs.Paints.{painted_none}
use Rattle.vp_dots.proofs.Shifts.{shifted_none, shifted_same}
use Rattle.vp_glyph.specs.Sheets.{Glyphs, sheet_dot}
use Rattle.vp_glyph.specs.Texts.{sampled_dot}
use Rattle.vp_glyph.proofs.Spread.{ink}

-- ink nowhere
pub moved_none : (op : Op) (at : ℤ) (f : ℕ → Bool) (row : List ℕ) → ((x : ℕ) → f x ≡ false) → Painted op (shifted at f) row row
moved_none op at f row h = painted_none op (shifted at f) row (λ d l. shifted_none at f d h)

module _ (op : Op) (at : ℤ) (sheet : Option Glyphs) (c w h left y : ℕ) where
  pub sampled_below : (row : List ℕ) → h ≤ y → Painted op (shifted at (λ x. leb left x && sampled_dot sheet c w h (x - left) y)) row row
  unfolding sampled_dot
  sampled_below row l = grind arith

  module _ (word : ℕ) (l : y < h) (e : (x : ℕ) → word_dot word x ≡ sheet_dot sheet c x (y * 24 / h)) where
    sampled_ink : (x : ℕ) → ink 12 (word_dot word) left w x ≡ (leb left x && sampled_dot sheet c w h (x - left) y)
    unfolding sampled_dot
    sampled_ink x = grind arith

    pub sampled_drawn : (a b : List ℕ) → Painted op (shifted at (ink 12 (word_dot word) left w)) a b
        → Painted op (shifted at (λ x. leb left x && sampled_dot sheet c w h (x - left) y)) a b
    sampled_drawn a b p = moved_same op at (ink 12 (word_dot word) left w) (λ x. leb left x && sampled_dot sheet c w h (x - left) y) a b sampled_ink p

    pub sampled_front : (d : ℕ) → shifted at (ink 12 (word_dot word) left w) d ≡ shifted at (λ x. leb left x && sampled_dot sheet c w h (x - left) y) d
    sampled_front d = shifted_same at (ink 12 (word_dot word) left w) (λ x. leb left x && sampled_dot sheet c w h (x - left) y) d (λ x _. sampled_ink x)

-- a character of no width
pub sampled_narrow : (op : Op) (at : ℤ) (sheet : Option Glyphs) (c w h y : ℕ) (row : List ℕ) → w ≡ 0 → Painted op (shifted at (λ x. sampled_dot sheet c w h x y)) row row
unfolding sampled_dot
sampled_narrow op at sheet c w h y row e = moved_none op at (λ x. sampled_dot sheet c w h x y) row (λ x. rw (le-ltb x w (omega arith)) refl)

-- from place 0 on
pub sampled_first : (op : Op) (at : ℤ) (sheet : Option Glyphs) (c w h y : ℕ) (a b : List ℕ) → Painted op (shifted at (λ x. leb 0 x && sampled_dot sheet c w h (x - 0) y)) a b → Painted op (shifted at (λ x. sampled_dot sheet c w h x y)) a b
sampled_first op at sheet c w h y a b p = moved_same op at (λ x. leb 0 x && sampled_dot sheet c w h (x - 0) y) (λ x. sampled_dot sheet c w h x y) a b (λ x. let z : x - 0 ≡ x = omega arith in rw (le-leb 0 x (omega arith), z) refl) p
