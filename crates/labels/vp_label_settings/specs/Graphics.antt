-- Boxes and other shapes, and the heads of pictures.
use Rattle.std.specs.Prelude.{ℕ, ◌/◌, ◌==◌, ◌&&◌, nat_le, Bool, Option, Some, None, unwrap_or, max, if◌then◌else◌}
use Rattle.vp_zpl.specs.declared.item.GraphicFormat.{GraphicFormat}
use Rattle.vp_zpl.specs.declared.item.GraphicFormat.TheVariants as formats
use Rattle.vp_format.specs.declared.field.GraphicBox.{GraphicBox}
use Rattle.vp_shapes.specs.declared.ring.Ring.{Ring}
use Rattle.vp_shapes.specs.declared.diagonal.Diagonal.{Diagonal}
use Rattle.vp_shapes.specs.declared.diagonal.Leaning.{Leaning}
use Rattle.vp_shapes.specs.declared.diagonal.Leaning.TheVariants.{Right}
use Rattle.vp_format.specs.declared.rows.Coding.{Coding}
use Rattle.vp_format.specs.declared.rows.Coding.TheVariants as codings
use Rattle.vp_label_settings.specs.declared.graphic.PictureHead.{PictureHead}
use Rattle.vp_label_settings.specs.Ranges.{ranged}

-- ^GB: a box of lines t thick; a width or height that is missing is t, and one below it is raised to t
abbrev pub side_of : Option ℕ → ℕ → ℕ
side_of side t = max t (ranged 1 32000 t side)

abbrev pub box_with : ℕ → Option ℕ → Option ℕ → GraphicBox
box_with t width height =
    record {
      width = side_of width t;
      height = side_of height t;
      thickness = t;
    }

abbrev pub box_of : Option ℕ → Option ℕ → Option ℕ → GraphicBox
box_of width height thickness = box_with (ranged 1 32000 1 thickness) width height

-- ^GC: a circle of this diameter
abbrev pub circle_of : Option ℕ → Option ℕ → Ring
circle_of diameter thickness =
    record {
      width = ranged 3 4095 3 diameter;
      height = ranged 3 4095 3 diameter;
      thickness = ranged 1 4095 1 thickness;
    }

-- ^GE, ^GD: a width or height that is missing is t, or 3 where t is less
abbrev pub ellipse_with : ℕ → Option ℕ → Option ℕ → Ring
ellipse_with t width height =
    record {
      width = ranged 3 4095 (max t 3) width;
      height = ranged 3 4095 (max t 3) height;
      thickness = t;
    }

abbrev pub ellipse_of : Option ℕ → Option ℕ → Option ℕ → Ring
ellipse_of width height thickness = ellipse_with (ranged 1 4095 1 thickness) width height

abbrev pub diagonal_with : ℕ → Option ℕ → Option ℕ → Leaning → Diagonal
diagonal_with t width height leaning =
    record {
      width = ranged 3 32000 (max t 3) width;
      height = ranged 3 32000 (max t 3) height;
      thickness = t;
      leaning = leaning;
    }

-- ^GD leans right where nothing is said
abbrev pub diagonal_of : Option ℕ → Option ℕ → Option ℕ → Option Leaning → Diagonal
diagonal_of width height thickness leaning =
    diagonal_with (ranged 1 32000 1 thickness) width height (unwrap_or leaning Right)

-- ^GF: a row has 1 to 1,024 bytes, and there is at least one
abbrev pub has_rows : ℕ → ℕ → Bool
has_rows bytes row = nat_le 1 row && nat_le row 1024 && nat_le row bytes

-- bytes that are sent as they are have to be as many as the picture's
abbrev pub binary_coding : Option ℕ → ℕ → Option Coding
binary_coding None bytes = None
binary_coding (Some sent) bytes = if sent == bytes then Some codings.Binary else None

abbrev pub picture_coding : Option GraphicFormat → Option ℕ → ℕ → Option Coding
picture_coding None sent bytes = Some codings.RunLength
picture_coding (Some formats.Ascii) sent bytes = Some codings.RunLength
picture_coding (Some formats.Binary) sent bytes = binary_coding sent bytes
picture_coding (Some formats.Other) sent bytes = None

abbrev pub head_if_coded : Option Coding → ℕ → ℕ → Option PictureHead
head_if_coded None bytes row = None
head_if_coded (Some coding) bytes row = Some (record { coding = coding; row_bytes = row; rows = bytes / row })

-- the head of a picture of `bytes` bytes in rows of `row` bytes, or none
abbrev pub picture_head : Option GraphicFormat → Option ℕ → Option ℕ → Option ℕ → Option PictureHead
picture_head format sent (Some bytes) (Some row) =
    if has_rows bytes row then head_if_coded (picture_coding format sent bytes) bytes row else None
picture_head format sent _ _ = None
