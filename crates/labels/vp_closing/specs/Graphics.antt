-- Pictures as the format keeps them (ZPL II, ^GF).
use Rattle.std.specs.Prelude.{Bool, true, false, Result, Ok, Err}
use Rattle.std.specs.List.{list_any, range_with_len}
use Rattle.vp_dots.specs.declared.fault.Fault.{Fault}
use Rattle.vp_dots.specs.declared.fault.Fault.TheVariants as faults
use Rattle.vp_format.specs.declared.field.Picture.{Picture}
use Rattle.vp_format.specs.declared.field.Content.{Content}
use Rattle.vp_format.specs.declared.field.Content.TheVariants as contents
use Rattle.vp_format.specs.Pictures.{is_refused, Picture as Codes}
use Rattle.vp_label_settings.specs.declared.graphic.PictureHead.{PictureHead}
use Rattle.vp_format.specs.declared.field.Span.{Span}

-- the picture that a head and codes behind it give
abbrev pub picture_with : PictureHead → Span → Picture
picture_with head codes =
    record {
      codes = codes;
      coding = head.coding;
      row_bytes = head.row_bytes;
      rows = head.rows;
    }

-- a refused symbol starts in one of the rows; what stands behind the last row isn't looked at
unfoldable pub has_refused : Codes → Bool
has_refused p = list_any (is_refused p) (range_with_len 0 p.rows)

abbrev pub picture_unless : Bool → Picture → Result Content Fault
picture_unless true p = Err faults.Graphic
picture_unless false p = Ok (contents.Picture p)
