-- What an item costs a page, in rows of dots: those that it lays on it, and the rows and columns that it
-- makes white.
use Rattle.std.specs.Prelude.{◌≡◌, ◌≤◌, ◌⊎◌, ℕ, ◌+◌, ◌*◌, Bool, true, ◌&&◌, if◌then◌else◌, List, [], ◌∷◌, ◌++◌, length, reverse, Option, Some, None}
use Rattle.vp_esc.specs.declared.reading.Reading.{Reading}
use Rattle.vp_esc.specs.declared.item.EscItem.{EscItem}
use Rattle.vp_esc.specs.declared.item.EscItem.TheVariants.{RasterByte, PageMode}
use Rattle.vp_esc.specs.Split.{items}
use Rattle.vp_page.specs.Layers.{Mark}
use Rattle.vp_page.specs.declared.page.TheConstants.{PAGE_ROWS, PAPER_DOTS}
use Rattle.vp_page.specs.Work.{laid_rows, most_wiped, least_wiped, rows_laid, area_rows, area_columns}
use Rattle.vp_receipt_settings.specs.Setup.{Setup}
use Rattle.vp_receipt_settings.specs.Pages.{area}
use Rattle.vp_receipt_settings.specs.Line.{Placed, line, begins_page, height, is_open, mode}
use Rattle.vp_receipt_settings.specs.Extent.{ends_line}
use Rattle.vp_receipt_settings.specs.declared.page_mode.PrinterMode.TheVariants.{Page}
use Rattle.vp_receipt_settings.specs.declared.text.TheConstants.{LINE_ROWS}
use Rattle.vp_receipt.specs.PageMarks.{layers, line_mark, own_mark, wipes}

-- since the last item that ended the line, or the ESC L that began the page: at most the rows of what was
-- laid, and the rows and columns of the page that ESC L makes white, or of the area of CAN
abbrev pub most_work : Setup → List EscItem → ℕ
most_work setup before = laid_rows (layers setup before) + most_wiped (layers setup before)

-- and at least the rows of what was laid, and one more for each black dot that CAN found on the diagonal of
-- its area
abbrev pub least_work : Setup → List EscItem → ℕ
least_work setup before = laid_rows (layers setup before) + least_wiped (layers setup before)

abbrev pub mark_rows : Option Mark → ℕ
mark_rows None = 0
mark_rows (Some mark) = rows_laid mark

-- what an item lays and wipes on a page at most: of the line that it ends, and of a row of a raster or a
-- symbol of its own, the rows that aren't past the depth, and for CAN the rows and columns of the area
abbrev pub most_by : Setup → List EscItem → EscItem → ℕ
most_by setup before item =
    (if ends_line setup before item && is_open (line setup before) then rows_laid (line_mark setup before)
    else 0)
    + mark_rows (own_mark setup before item)
    + (if wipes item then area_rows (area setup before) + area_columns (area setup before) else 0)

-- what was counted before an item
abbrev pub counted_before : Setup → List EscItem → EscItem → ℕ
counted_before setup before item = if ends_line setup before item then 0 else most_work setup before

-- on a page each item adds at most that, and one that ends the line to nothing
abbrev pub AddsAtMost : Type 0
AddsAtMost =
    (setup : Setup) (before : List EscItem) (item : EscItem) → mode setup before ≡ Page →
    most_work setup (item ∷ before) ≤ counted_before setup before item + most_by setup before item

-- that is at most the rows of a line, and the rows and columns of a page, which CAN makes white; for a byte
-- of a raster it is two
pub record CostsAtMost : Type 0 where
  pub item : (setup : Setup) (before : List EscItem) (item : EscItem)
      → most_by setup before item ≤ LINE_ROWS + PAGE_ROWS + PAPER_DOTS
  pub row : (setup : Setup) (before : List EscItem) (byte : ℕ) → most_by setup before (RasterByte byte) ≤ 2
  -- so is all that is counted where an item ended the line
  pub ended : (setup : Setup) (before : List EscItem) (item : EscItem) → mode setup before ≡ Page
      → ends_line setup before item ≡ true
      → most_work setup (item ∷ before) ≤ LINE_ROWS + PAGE_ROWS + PAPER_DOTS

-- the page that ESC L begins, which it makes white
abbrev pub begun_by : Setup → List EscItem → EscItem → ℕ
begun_by setup before PageMode =
    if begins_page (mode setup before) (line setup before) then PAGE_ROWS + PAPER_DOTS else 0
begun_by setup before _ = 0

-- what all items lay and wipe at most
abbrev pub most_in_all : Setup → List EscItem → ℕ
most_in_all setup [] = 0
most_in_all setup (item ∷ before) =
    most_in_all setup before + (most_by setup before item + begun_by setup before item)

-- the count begins anew with an item that ends the line, and with the ESC L that begins a page
abbrev pub counts_anew : Setup → List EscItem → EscItem → Bool
counts_anew setup before PageMode = begins_page (mode setup before) (line setup before)
counts_anew setup before item = ends_line setup before item

-- the counts that have ended, added up
abbrev pub ended_counts : Setup → List EscItem → ℕ
ended_counts setup [] = 0
ended_counts setup (item ∷ before) =
    ended_counts setup before + (if counts_anew setup before item then most_work setup before else 0)

-- so any bytes, whatever came before them, lay and wipe at most the rows of a line and the rows and columns
-- of a page for each of them; and all that was ever counted is no more than that, beside the page that is
-- white from the start
pub record BytesCostAtMost : Type 0 where
  pub bytes : (reading : Reading) (setup : Setup) (bytes more : List ℕ)
      → most_in_all setup (reverse (items reading (bytes ++ more)))
      ≤ most_in_all setup (reverse (items reading bytes)) + (LINE_ROWS + PAGE_ROWS + PAPER_DOTS) * length more
  pub counted : (setup : Setup) (before : List EscItem) → ended_counts setup before + most_work setup before
      ≤ PAGE_ROWS + PAPER_DOTS + most_in_all setup before

-- of an item, in either mode: it puts at most one character or column into the line, no higher than the
-- highest line, over all that stood in it or into one that it begins anew
pub record DrawsInto (before after : List Placed) : Type 0 where
  pub drawn : List Placed
  pub kept : List Placed
  pub split : after ≡ drawn ++ kept
  pub one : length drawn ≤ 1
  pub low : height drawn ≤ LINE_ROWS
  pub whole : (kept ≡ before) ⊎ (kept ≡ [])

abbrev pub DrawsAtMost : Type 0
DrawsAtMost =
    (setup : Setup) (before : List EscItem) (item : EscItem) →
    DrawsInto (line setup before) (line setup (item ∷ before))
