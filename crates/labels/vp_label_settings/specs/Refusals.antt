-- Why an item is refused before a field is closed.
use Rattle.std.specs.Prelude.{Bool, true, Option, Some, None}
use Rattle.vp_dots.specs.declared.fault.Fault.{Fault}
use Rattle.vp_dots.specs.declared.fault.Fault.TheVariants as faults
use Rattle.vp_zpl.specs.declared.item.Command.{Command}
use Rattle.vp_zpl.specs.declared.item.Command.TheVariants.{Graphic}
use Rattle.vp_label_settings.specs.declared.graphic.PictureHead.{PictureHead}
use Rattle.vp_label_settings.specs.Graphics.{picture_head}

abbrev pub unless_headed : Option PictureHead → Option Fault
unless_headed None = Some faults.Graphic
unless_headed (Some head) = None

-- ^GF in a format: a head that can't be one, even if its content is replaced later
abbrev pub head_refusal : Bool → Command → Option Fault
head_refusal true (Graphic format sent bytes row) = unless_headed (picture_head format sent bytes row)
head_refusal _ _ = None
