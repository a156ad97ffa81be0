-- A byte of a raster: what it prints, and the page after it.
use Rattle.std.proofs.Common.{◌≡◌, ℕ, true, refl, List, [], ◌∷◌, ◌++◌}
use Rattle.vp_esc.specs.declared.item.EscItem.{EscItem}
use Rattle.vp_esc.specs.declared.item.EscItem.TheVariants.{RasterByte}
use Rattle.vp_page.specs.Layers.{Laid}
use Rattle.vp_page.specs.Pages.{HasPage, Paged}
use Rattle.vp_receipt_settings.specs.Setup.{Setup}
use Rattle.vp_receipt_settings.specs.declared.page_mode.PrinterMode.TheVariants.{Standard}
use Rattle.vp_receipt_settings.specs.Line.{mode}
use Rattle.vp_receipt.specs.PageMarks.{layers, raster_mark}
use Rattle.vp_receipt_settings.specs.Rasters.{is_row_end, row_so_far}
use Rattle.vp_receipt.specs.Standing.{HasPageIf}
use Rattle.vp_receipt.specs.Strips.{prints, own_part}
use Rattle.vp_receipt.proofs.PageLines.{has_page}

pub row_printed : (setup : Setup) (before : List EscItem) (byte : ℕ) → mode setup before ≡ Standard → own_part setup before (RasterByte byte) ≡ prints setup before (RasterByte byte)
row_printed setup before byte e = rw e refl

pub row_laid : (setup : Setup) (before : List EscItem) (byte : ℕ) (page : Paged) → is_row_end before ≡ true → HasPage (Laid (raster_mark setup before (row_so_far before ++ byte ∷ [])) ∷ layers setup before) page
    → HasPageIf (mode setup (RasterByte byte ∷ before)) (layers setup (RasterByte byte ∷ before)) page
row_laid setup before byte page ends h = has_page (mode setup (RasterByte byte ∷ before)) (layers setup (RasterByte byte ∷ before)) page (rw ends h)
