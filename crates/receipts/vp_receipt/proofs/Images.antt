-- What an item prints that is no raster's: the images that it completes.
use Rattle.std.proofs.lemmas.Grind.{common_steps, flat_map-append}
use Rattle.std.proofs.Common.{◌≡◌, ℕ, Bool, true, false, List, flat_map, Option, arith}
use Rattle.std.proofs.lemmas.Grind.{flat_map-append}
use Rattle.vp_dots.specs.Images.{Image, pbm}
use Rattle.vp_esc.specs.declared.item.EscItem.{EscItem}
use Rattle.vp_esc.specs.declared.item.EscItem.TheVariants.{Raster, RasterByte}
use Rattle.vp_receipt_settings.specs.declared.width.Width.{Width}
use Rattle.vp_receipt_settings.specs.Setup.{Setup}
use Rattle.vp_strips.specs.Rows.{strip_text, printed_dot, image_text}
use Rattle.vp_receipt.specs.Images.{strip, line_images, own_images, symbol_strip, completed}
use Rattle.vp_receipt.specs.Strips.{line_strip_rows, line_strip, own_strips, prints}

pub strip_is : (paper : Width) (rows : ℕ) (f : ℕ → ℕ → Bool) → strip_text paper rows f ≡ flat_map pbm (strip paper rows f)
strip_is paper rows f = grind (arith, common_steps)

pub line_is : (setup : Setup) (before : List EscItem) (item : EscItem) → line_strip setup before item ≡ flat_map pbm (line_images setup before item)
line_is setup before item = strip_is setup.width (line_strip_rows setup before item) (printed_dot setup before)

symbol_is : (setup : Setup) (before : List EscItem) (image : Option Image) → image_text setup before image ≡ flat_map pbm (symbol_strip setup before image)
symbol_is setup before image = grind (arith, strip_is)

-- an item of a raster: its head, or a byte
abbrev pub is_raster : EscItem → Bool
is_raster (Raster scale bytes rows) = true
is_raster (RasterByte byte) = true
is_raster _ = false

own_is : (setup : Setup) (before : List EscItem) (item : EscItem) → is_raster item ≡ false → own_strips setup before item ≡ flat_map pbm (own_images setup before item)
own_is setup before item h1 = grind (arith, common_steps, strip_is, flat_map-append, symbol_is)

pub item_is : (setup : Setup) (before : List EscItem) (item : EscItem) → is_raster item ≡ false → prints setup before item ≡ flat_map pbm (completed setup before item)
item_is setup before item h = grind (arith, flat_map-append, line_is, own_is, strip_is)
