-- Rows of a raster that are printed as they come.
use Rattle.std.specs.Prelude.{◌≡◌, ℕ, List, ◌++◌, take, ◌+◌, ◌-◌, ◌*◌, ◌/◌, Bool, true, false, not, ◌&&◌, ◌==◌, if◌then◌else◌, min}
use Rattle.vp_esc.specs.declared.item.RasterScale.{RasterScale}
use Rattle.vp_esc.specs.declared.item.RasterScale.TheVariants.{Normal, DoubleWidth, DoubleHeight, Quadruple}
use Rattle.vp_receipt_settings.specs.declared.raster.Raster.{Raster}
use Rattle.vp_receipt_settings.specs.declared.settings.Settings.{Settings}
use Rattle.vp_esc.specs.declared.item.EscItem.{EscItem}
use Rattle.vp_receipt.specs.Strips.{printed}
use Rattle.vp_receipt_settings.specs.Gathering.{IsGathering, left_of, run_of}
use Rattle.vp_receipt_settings.specs.Line.{standard_length}
use Rattle.vp_receipt_settings.specs.Settings.{settings_of}
use Rattle.vp_receipt_settings.specs.Pages.{is_paged}
use Rattle.vp_receipt_settings.specs.Rasters.{bytes_after}
use Rattle.vp_receipt_settings.specs.Setup.{Setup, across, row_bytes}

-- a dot is drawn once
abbrev pub is_once : RasterScale → Bool
is_once Normal = true
is_once DoubleWidth = false
is_once DoubleHeight = false
is_once Quadruple = false

-- the next row begins on paper, and is just as wide as the paper, which the line length leaves whole
abbrev pub is_plain : Settings → Raster → Bool
is_plain s r =
    (r.got == 0)
    && (not (is_paged s.page.mode)
    && (is_once r.scale
    && ((r.bytes == row_bytes s.paper)
    && (standard_length s.paper s.left_margin s.area_width == across s.paper))))

-- how many bytes are taken in one run where `output` bytes can be put out: of plain rows as many as are put
-- out whole, and then all of one row but its end
abbrev pub rows_room : Settings → Raster → ℕ → ℕ
rows_room s r output =
    if is_plain s r then min (left_of r) (output / r.bytes * r.bytes + (r.bytes - 1))
    else run_of s.page.mode r

-- how many of `bytes` bytes that are taken in one run are put out: those of whole plain rows
abbrev pub rows_put : Settings → Raster → ℕ → ℕ
rows_put s r bytes = if is_plain s r then bytes / r.bytes * r.bytes else 0

-- these bytes have come, and the first of them are all that they print
pub record IsOnPaper (setup : Setup) (before : List EscItem) (s : Settings) (r : Raster) (bytes : List ℕ)
    (n : ℕ) : Type 0 where
  pub settings : s ≡ settings_of setup (bytes_after bytes before)
  pub raster : IsGathering r (bytes_after bytes before)
  pub printed : printed setup (bytes_after bytes before) ≡ printed setup before ++ take n bytes
