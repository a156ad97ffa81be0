-- What a receipt printer takes of the heap.
use Rattle.std.specs.Prelude.{ℕ, ◌+◌, ◌*◌}
use Rattle.vp_glyph.specs.Memory.{sheets_memory}
use Rattle.vp_glyph.specs.Sheets.{Sheets}
use Rattle.vp_page.specs.declared.line.TheConstants.{LINE_BYTES}
use Rattle.vp_page.specs.declared.page.TheConstants.{PAPER_BYTES, PAPER_DOTS, PAGE_ROWS}
use Rattle.vp_receipt_settings.specs.declared.text.TheConstants.{LINE_ROWS}

-- in bytes: one line, the two halves of a page and the sheets
abbrev pub receipt_memory : Sheets → ℕ
receipt_memory sheets =
    LINE_ROWS * LINE_BYTES + (PAGE_ROWS * PAPER_BYTES + PAPER_DOTS * LINE_BYTES) + sheets_memory sheets
