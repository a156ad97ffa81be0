-- The byte that ends a row of a raster.
use Rattle.std.proofs.Common.{◌≡◌, ℕ, ◌+◌, ◌-◌, ◌<◌, refl, List, [], ◌∷◌, ◌++◌, length}
use Rattle.std.proofs.lemmas.Bool.{lt-ltb, eq-eqb}
use Rattle.vp_esc.specs.declared.item.EscItem.{EscItem}
use Rattle.vp_esc.specs.declared.item.EscItem.TheVariants.{RasterByte}
use Rattle.vp_receipt_settings.specs.Setup.{Setup}
use Rattle.vp_receipt_settings.specs.Rasters.{raster_bytes, rows_to_come, row_so_far}
use Rattle.vp_receipt.specs.Strips.{own_strips, raster_row_text}

-- the byte that ends a row
module _ (before : List EscItem) (byte : ℕ) (ends : length (row_so_far before) + 1 ≡ raster_bytes before) where
  pub row_ended : row_so_far (RasterByte byte ∷ before) ≡ []
  row_ended = rw (eq-eqb (length (row_so_far before) + 1) (raster_bytes before) ends) refl

  pub rows_ended : rows_to_come (RasterByte byte ∷ before) ≡ rows_to_come before - 1
  rows_ended = rw (eq-eqb (length (row_so_far before) + 1) (raster_bytes before) ends) refl

  pub row_printed : (setup : Setup) → 0 < rows_to_come before → own_strips setup before (RasterByte byte) ≡ raster_row_text setup before (row_so_far before ++ byte ∷ [])
  row_printed setup some = rw (eq-eqb (length (row_so_far before) + 1) (raster_bytes before) ends, lt-ltb 0 (rows_to_come before) some) refl
