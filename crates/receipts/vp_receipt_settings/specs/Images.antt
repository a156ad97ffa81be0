-- The images of what stands in a line.
use Rattle.std.specs.Prelude.{◌≡◌, ℕ, ◌/◌, ◌<◌, Bool, true, nat_lt, ◌&&◌, List}
use Rattle.vp_dots.specs.Dots.{dot}
use Rattle.vp_dots.specs.Images.{Image}
use Rattle.vp_glyph.specs.Cells.{cell_width, cell_height, cell_dot}
use Rattle.vp_glyph.specs.declared.cell.Font.{Font}
use Rattle.vp_glyph.specs.declared.cell.Style.{Style}
use Rattle.vp_glyph.specs.Sheets.{Sheets}
use Rattle.std.proofs.lemmas.Bool.{and_parts, ltb-true}
use Rattle.vp_receipt_settings.specs.declared.column.TheConstants.{COLUMN_ROWS}

-- a character: its cell
abbrev pub cell_image : Sheets → Font → Style → ℕ → Image
cell_image sheets font style c = record {
  width = cell_width font style;
  height = cell_height font style;
  is_black = cell_dot sheets font style c;
}

-- ESC *: a column of dots, each of them `wide` dots wide and `high` rows high, the top dot first
abbrev pub column_dot : ℕ → ℕ → List ℕ → ℕ → ℕ → Bool
column_dot wide high bytes x y = nat_lt x wide && nat_lt y COLUMN_ROWS && dot bytes (y / high)

-- ESC *: its image, 24 rows high
abbrev pub column_image : ℕ → ℕ → List ℕ → Image
column_image wide high bytes =
    record { width = wide; height = COLUMN_ROWS; is_black = column_dot wide high bytes }

pub column_inside : (wide high : ℕ) (bytes : List ℕ) (x y : ℕ) → column_dot wide high bytes x y ≡ true
    → (x < wide) × (y < COLUMN_ROWS)
column_inside wide high bytes x y e =
    let p = and_parts _ _ e in
    let q = and_parts _ _ p.0 in
    (ltb-true x wide q.0, ltb-true y COLUMN_ROWS q.1)
