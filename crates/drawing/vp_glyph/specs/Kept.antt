-- Two lines of a block that are kept.
use Rattle.std.specs.Prelude.{ℤ, take}
use Rattle.vp_glyph.specs.Blocks.{BlockLayout, pieces, first}
use Rattle.vp_glyph.specs.Layouts.{AreRowsOf}
use Rattle.vp_glyph.specs.declared.kept.DrawnLine.{DrawnLine}
use Rattle.vp_glyph.specs.declared.kept.Latest.{Latest}
use Rattle.vp_glyph.specs.declared.kept.Latest.TheVariants.{First, Second}

-- a line that was drawn, with the rows of the sheet on which it stands
abbrev pub IsDrawn : BlockLayout → ℤ → DrawnLine → Type 0
IsDrawn b at drawn =
    AreRowsOf b at (take drawn.line.cells (first (pieces drawn.line.text.now))) drawn.shown.rows

-- the one of two lines that was shown last
abbrev pub latest_of : Latest → DrawnLine → DrawnLine → DrawnLine
latest_of First a b = a
latest_of Second a b = b
