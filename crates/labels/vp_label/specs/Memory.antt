-- What a label printer takes of the heap.
use Rattle.std.specs.Prelude.{ℕ, ◌+◌, ◌*◌}
use Rattle.vp_glyph.specs.Memory.{sheets_memory}
use Rattle.vp_glyph.specs.Sheets.{Sheets}
use Rattle.vp_format.specs.Formats.{format_memory}
use Rattle.vp_bands.specs.Standing.{painter_memory}
use Rattle.vp_label_size.specs.declared.TheConstants.{BAND_BYTES, BAND_ROWS}

-- in bytes: one format, what its bands are painted by, one band and the sheets
abbrev pub label_memory : Sheets → ℕ
label_memory sheets = format_memory + painter_memory + BAND_ROWS * BAND_BYTES + sheets_memory sheets
