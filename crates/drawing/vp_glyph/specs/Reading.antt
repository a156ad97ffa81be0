-- What a text tells of a sheet.
use Rattle.std.specs.Prelude.{ℕ, ◌*◌, ◌==◌, not, nat_lt, ◌&&◌, List, length, slice_index, take, drop, Option, None, Some, Result, Ok, Err, if◌then◌else◌}
use Prim.Native.Char.{code}
use Rattle.vp_glyph.specs.Sheets.{Glyphs}
use Rattle.vp_glyph.specs.Headers.{Header, header_behind}
use Rattle.vp_glyph.specs.declared.sheet.SheetError.{SheetError}
use Rattle.vp_glyph.specs.declared.sheet.SheetError.TheVariants as error

-- a header that stands before enough bytes for 16 by 16 cells of w by h, and tells just their size
abbrev pub sized : ℕ → ℕ → Option Header → Result Glyphs SheetError
sized w h None = Err error.Header
sized w h (Some header) =
    if not (header.width == 16 * w && header.height == 16 * h) then Err error.Size
    else (if nat_lt (length header.raster) (32 * w * h) then Err error.Short
    else Ok (record { wide = w; high = h; raster = take (32 * w * h) header.raster }))

-- the sheet that a text tells, with cells of w by h, or the first offence
unfoldable pub sheet_of : List ℕ → ℕ → ℕ → Result Glyphs SheetError
sheet_of text w h = if slice_index text 0 == code "P" && slice_index text 1 == code "4"
    then sized w h (header_behind (drop 2 text)) else Err error.Magic

-- the number by which an offence is reported
abbrev pub number_of : SheetError → Option ℕ
number_of error.Magic = Some 1
number_of error.Header = Some 2
number_of error.Size = Some 3
number_of error.Short = Some 4
number_of (error.Memory e) = None
