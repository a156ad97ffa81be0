-- The layout of a block, from its parts.
use Rattle.std.proofs.Common.{ℕ, Option}
use Rattle.vp_glyph.specs.Sheets.{Glyphs}
use Rattle.vp_glyph.specs.declared.block.Alignment.{Alignment}
use Rattle.vp_glyph.specs.Blocks.{BlockLayout}

-- cells of w by h dots in b lines of a dots, s rows from one to the next
abbrev pub layout : Option Glyphs → ℕ → ℕ → ℕ → ℕ → ℕ → Alignment → BlockLayout
layout sheet w h a b s d =
    record { sheet = sheet; w = w; h = h; wide = a; rows = b; pitch = s; alignment = d }
