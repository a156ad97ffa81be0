-- What a band of a label shows.
use Rattle.std.specs.Prelude.{◌≡◌, ◌<◌, ℕ, ◌+◌, pos, Bool, true, List, [], length, map, slice_index_or}
use Rattle.vp_dots.specs.Dots.{dot, dots}
use Rattle.vp_dots.specs.Painting.{paint}
use Rattle.vp_dots.specs.declared.Op.{Op}
use Rattle.vp_label_size.specs.declared.TheConstants.{WIDEST, BAND_BYTES, BAND_ROWS}
use Rattle.vp_field.specs.Strokes.{Stroke, viewed, label_dot}
use Rattle.vp_field.specs.declared.view.View.{View}

-- the band that begins with a row of the label as it is put out shows the dots of these strokes on the label,
-- as far as the band reaches
pub record Shows (view : View) (first : ℕ) (strokes : List Stroke) (band : List (List ℕ)) : Type 0 where
  pub rows_are : (k : ℕ) → k < BAND_ROWS → length (slice_index_or band k []) ≡ BAND_BYTES
  pub dots_are : (x k : ℕ) → x < WIDEST → x < view.width → k < BAND_ROWS → first + k < view.height
      → dot (slice_index_or band k []) x ≡ label_dot (map (viewed view) strokes) (pos x) (pos (first + k))

-- the operation is applied to the dots of a band where there is ink, on the label, which has so many columns:
-- what stands beside it is never shown, and may be painted or not. Each row is as long as before
pub record ShownPainted (columns : ℕ) (op : Op) (ink : ℕ → ℕ → Bool) (old new : List (List ℕ)) : Type 0 where
  pub lengths_are : (k : ℕ) → k < BAND_ROWS
      → length (slice_index_or new k []) ≡ length (slice_index_or old k [])
  pub dots_are : (x k : ℕ) → x < columns → k < BAND_ROWS → x < dots (slice_index_or old k [])
      → dot (slice_index_or new k []) x ≡ paint op (ink x k) (dot (slice_index_or old k []) x)

-- ink on a dot of a band is counted: painting it took something
abbrev pub IsCounted : (ℕ → ℕ → Bool) → ℕ → Type 0
IsCounted ink work = (x k : ℕ) → k < BAND_ROWS → ink x k ≡ true → 0 < work
