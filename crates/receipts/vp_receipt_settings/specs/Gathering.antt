-- What is kept of the raster whose bytes come.
use Rattle.std.specs.Prelude.{◌≡◌, ◌<◌, ℕ, ◌-◌, ◌*◌, ◌==◌, if◌then◌else◌, true, List, [], ◌∷◌, ◌++◌, length, take, min}
use Rattle.vp_esc.specs.declared.item.EscItem.{EscItem}
use Rattle.vp_page.specs.declared.line.TheConstants.{LINE_BYTES}
use Rattle.vp_receipt_settings.specs.declared.page_mode.PrinterMode.{PrinterMode}
use Rattle.vp_receipt_settings.specs.declared.page_mode.PrinterMode.TheVariants.{Standard, Page}
use Rattle.vp_receipt_settings.specs.declared.raster.Raster.{Raster}
use Rattle.vp_receipt_settings.specs.Rasters.{raster_scale, raster_bytes, rows_to_come, row_so_far, is_row_end}

-- the first bytes of a row that comes are kept, as many as the longest line of a page has
pub record IsGathering (r : Raster) (before : List EscItem) : Type 0 where
  pub scale : r.scale ≡ raster_scale before
  pub bytes : r.bytes ≡ raster_bytes before
  pub rows : r.rows ≡ rows_to_come before
  pub got : r.got ≡ length (row_so_far before)
  pub row : take (min r.got LINE_BYTES) r.row ≡ take LINE_BYTES (row_so_far before)

-- what is kept of a whole row
abbrev pub kept_of : Raster → List ℕ
kept_of r = take (min r.bytes LINE_BYTES) r.row

-- a byte that ends a row came last
pub record EndsRow (r : Raster) (before : List EscItem) (byte : ℕ) : Type 0 where
  pub ends : is_row_end before ≡ true
  pub scale : r.scale ≡ raster_scale before
  pub bytes : r.bytes ≡ raster_bytes before
  pub row : kept_of r ≡ take LINE_BYTES (row_so_far before ++ byte ∷ [])

-- a row that comes is not whole
pub record IsPartRow (r : Raster) : Type 0 where
  pub some : 0 < r.rows → r.got < r.bytes
  pub none : r.rows ≡ 0 → r.got ≡ 0

-- how many bytes come before the one that ends the row
abbrev pub room_of : Raster → ℕ
room_of r = if r.rows == 0 then 0 else r.bytes - r.got - 1

-- how many bytes of the raster have not come
abbrev pub left_of : Raster → ℕ
left_of r = r.rows * r.bytes - r.got

-- how many come before one that prints: a row that is laid on a page prints nothing
abbrev pub run_of : PrinterMode → Raster → ℕ
run_of Standard r = room_of r
run_of Page r = left_of r
