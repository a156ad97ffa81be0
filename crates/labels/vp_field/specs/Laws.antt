-- What the dots of a label come to.
use Rattle.std.specs.Prelude.{◌≡◌, ◌<◌, ℕ, ◌+◌, ◌-◌, ℤ, pos, ◌+ℤ◌, ◌≤ℤ◌, ◌<ℤ◌, true, false, List, [], ◌∷◌, ◌++◌, map}
use Rattle.vp_glyph.specs.Sheets.{Sheets}
use Rattle.vp_dots.specs.Painting.{paint}
use Rattle.vp_field.specs.Strokes.{Stroke, viewed, label_dot, image_dot}
use Rattle.vp_field.specs.Views.{seen_x, seen_y}
use Rattle.vp_field.specs.Turning.{turned_height}
use Rattle.vp_field.specs.Contents.{content_width, content_height, content_dot, orientation_of}
use Rattle.vp_field.specs.Fields.{field_ink, stroke_of, IsKept}
use Rattle.vp_field.specs.Bands.{Shows}
use Rattle.vp_format.specs.declared.field.Content.{Content}
use Rattle.vp_format.specs.declared.field.Field.{Field}
use Rattle.vp_field.specs.declared.view.View.{View}
use Rattle.vp_label_size.specs.declared.TheConstants.{BAND_ROWS}

-- the dots can be painted one stroke after the other: without a stroke all are white, and one more does
-- what its operation does
pub record StrokeAfterStroke : Type 0 where
  pub none : (x y : ℤ) → label_dot [] x y ≡ false
  pub more : (strokes : List Stroke) (s : Stroke) (x y : ℤ) → label_dot (strokes ++ s ∷ []) x y
      ≡ paint s.op (s.ink x y) (label_dot strokes x y)

-- the dots of the label as it is put out are the label's, at other places
abbrev pub DotsMove : Type 0
DotsMove =
    (view : View) (strokes : List Stroke) (x y : ℤ) → label_dot (map (viewed view) strokes) x y
    ≡ label_dot strokes (seen_x view x) (seen_y view y)

-- the same label upright, and not mirrored
abbrev pub upright : View → View
upright view = record { width = view.width; height = view.height; inverted = false; mirrored = view.mirrored }

abbrev pub unmirrored : View → View
unmirrored view =
    record { width = view.width; height = view.height; inverted = view.inverted; mirrored = false }

-- a label that is turned by 180 degrees shows at each place what the upright one shows at the place as far
-- from the other end, and a mirrored one likewise in each row; so a label turned twice, or mirrored twice,
-- is the label
pub record TurnedAndMirrored : Type 0 where
  pub inverted : (view : View) (strokes : List Stroke) (x y : ℕ) → view.inverted ≡ true → x < view.width
      → y < view.height
      → image_dot view strokes x y ≡ image_dot (upright view) strokes (view.width - 1 - x)
      (view.height - 1 - y)
  pub mirrored : (view : View) (strokes : List Stroke) (x y : ℕ) → view.mirrored ≡ true → x < view.width
      → y < view.height
      → image_dot view strokes x y ≡ image_dot (unmirrored view) strokes (view.width - 1 - x) y
  pub twice_back : (view : View) (x y : ℤ) → (seen_x view (seen_x view x) ≡ x)
      × (seen_y view (seen_y view y) ≡ y)

-- what a field shows lies in its box
pub record InTheBox : Type 0 where
  pub contents : (sheets : Sheets) (stored : List ℕ) (c : Content) (u v : ℕ)
      → content_dot sheets stored c u v ≡ true
      → (u < content_width sheets stored c) × (v < content_height sheets stored c)
  -- its ink lies in the rows of the turned box
  pub rows : (sheets : Sheets) (stored : List ℕ) (f : Field) (x y : ℤ) → field_ink sheets stored f x y ≡ true
      → (f.top ≤ℤ y) × (y <ℤ (f.top +ℤ pos (turned_height (orientation_of f.orientation f.content)
      (content_width sheets stored f.content) (content_height sheets stored f.content))))
  -- a band shows a stroke that has no ink in its rows without painting it
  pub skipped : (view : View) (first : ℕ) (s : Stroke) (band : List (List ℕ)) → ((x k : ℕ) → k < BAND_ROWS
      → s.ink (seen_x view (pos x)) (seen_y view (pos (first + k))) ≡ false)
      → (strokes : List Stroke) → Shows view first strokes band → Shows view first (strokes ++ s ∷ []) band

-- a field that is kept stays so, and does what it did, when bytes are stored behind
pub record StoredBehind : Type 0 where
  pub kept : (stored more : List ℕ) (f : Field) → IsKept stored f → IsKept (stored ++ more) f
  pub stroke : (sheets : Sheets) (stored more : List ℕ) (f : Field) → IsKept stored f
      → stroke_of sheets (stored ++ more) f ≡ stroke_of sheets stored f
