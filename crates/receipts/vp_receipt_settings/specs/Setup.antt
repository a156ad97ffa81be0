-- What a receipt printer is set up with.
use Rattle.std.specs.Prelude.{ℕ}
use Rattle.vp_page.specs.declared.page.TheConstants.{PAPER_DOTS, PAPER_BYTES}
use Rattle.vp_receipt_settings.specs.declared.width.TheConstants.{NARROW_PAPER_DOTS, NARROW_PAPER_BYTES}
use Rattle.vp_receipt_settings.specs.declared.width.Width.{Width}
use Rattle.vp_receipt_settings.specs.declared.width.Width.TheVariants.{W576, W384}
use Rattle.vp_glyph.specs.Sheets.{Sheets}

-- the width of its paper, and the sheets of its fonts
pub record Setup : Type 0 where
  pub width : Width
  pub sheets : Sheets

-- how many dots the paper is wide
abbrev pub across : Width → ℕ
across W576 = PAPER_DOTS
across W384 = NARROW_PAPER_DOTS

-- how many bytes a row of it has
abbrev pub row_bytes : Width → ℕ
row_bytes W576 = PAPER_BYTES
row_bytes W384 = NARROW_PAPER_BYTES
