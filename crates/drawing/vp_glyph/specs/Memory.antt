-- What sheets take of the heap.
use Rattle.std.specs.Prelude.{ℕ, ◌+◌, ◌*◌, Option, None, Some}
use Rattle.vp_glyph.specs.Sheets.{Glyphs}
use Rattle.vp_glyph.specs.Sheets.{Sheets}
use Rattle.vp_glyph.specs.declared.sheet.TheConstants.{INKED_BYTES}

-- the bytes of a sheet: those of its rows, a word of 8 bytes for each row of a cell, and which of a cell's
-- rows have ink
abbrev pub sheet_memory : Glyphs → ℕ
sheet_memory sheet = 32 * sheet.wide * sheet.high + 8 * (256 * sheet.high) + INKED_BYTES * 256

-- a sheet that is missing has none
abbrev pub memory_of : Option Glyphs → ℕ
memory_of None = 0
memory_of (Some sheet) = sheet_memory sheet

abbrev pub sheets_memory : Sheets → ℕ
sheets_memory sheets = memory_of sheets.a + memory_of sheets.b
