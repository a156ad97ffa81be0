-- Ink at a place of many rows.
use Rattle.std.specs.Prelude.{ℕ, ◌-◌, ◌<◌, Bool, nat_le, nat_lt, ◌&&◌, List, [], ℤ, slice_index, slice_index_or}
use Rattle.vp_dots.specs.Dots.{shifted}
use Rattle.vp_dots.specs.Words.{word_dot}
use Rattle.vp_dots.specs.Painting.{Painted}
use Rattle.vp_dots.specs.declared.Op.{Op}

-- ink with its top left place at column left of row top: place (x, y) meets its place (x - left, y - top)
abbrev pub placed : ℤ → ℤ → (ℕ → ℕ → Bool) → ℕ → ℕ → Bool
placed left top ink x y = shifted top (λ v. shifted left (λ u. ink u v) x) y

-- dot (x, y) of the first h words, one on each row from `top` on, each moved by an offset
abbrev pub words_dot : List ℕ → ℤ → ℕ → ℕ → ℕ → ℕ → Bool
words_dot words left top h x y =
    nat_le top y && (nat_lt (y - top) h && shifted left (word_dot (slice_index words (y - top))) x)

-- the rows above row `high`, each with the operation applied where there is ink
pub record RowsPainted (high : ℕ) (op : Op) (ink : ℕ → ℕ → Bool) (old new : List (List ℕ)) : Type 0 where
  pub rows_are : (y : ℕ) → y < high →
      Painted op (λ x. ink x y) (slice_index_or old y []) (slice_index_or new y [])
