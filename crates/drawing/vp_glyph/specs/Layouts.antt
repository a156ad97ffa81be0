-- How a block is laid, as it is painted.
use Rattle.std.specs.Prelude.{◌≡◌, ◌<◌, ◌||◌, ℕ, ℤ, List, slice_index}
use Rattle.vp_dots.specs.Dots.{shifted}
use Rattle.vp_glyph.specs.declared.block.Block.{Block}
use Rattle.vp_glyph.specs.Blocks.{BlockLayout, line_dot}
use Rattle.vp_glyph.specs.Halves.{half_dot}

abbrev pub layout_of : {A : _} → Block A → BlockLayout
layout_of b = record {
  sheet = b.sheet.now;
  w = b.w;
  h = b.h;
  wide = b.wide;
  rows = b.rows;
  pitch = b.pitch;
  alignment = b.alignment;
}

-- its lines over each other, as many rows high as a cell of the sheet
abbrev pub sheet_rows : BlockLayout → BlockLayout
sheet_rows b = record {
  sheet = b.sheet;
  w = b.w;
  h = 24;
  wide = b.wide;
  rows = 1;
  pitch = 0;
  alignment = b.alignment;
}

-- the first 32 dots of the rows of the sheet on which a line of a block stands, moved by an offset
abbrev pub AreRowsOf : BlockLayout → ℤ → List ℕ → List ℕ → Type 0
AreRowsOf b at cells rows = (s x : ℕ) → s < 24 → x < 32
    → half_dot (slice_index rows s) x ≡ shifted at (λ x. line_dot (sheet_rows b) 0 cells x s) x

-- its dots are on rows, beside others
abbrev pub HaveLine : BlockLayout → ℤ → List ℕ → List ℕ → Type 0
HaveLine b at cells rows = (s x : ℕ) → s < 24 → x < 32
    → half_dot (slice_index rows s) x
    ≡ (half_dot (slice_index rows s) x || shifted at (λ x. line_dot (sheet_rows b) 0 cells x s) x)
