-- What a command does to the format.
use Rattle.std.specs.Prelude.{Bool, true, false}
use Rattle.vp_zpl.specs.declared.item.Command.{Command}
use Rattle.vp_zpl.specs.declared.item.Command.TheVariants.{FormatStart, FormatEnd, FieldSeparator}
use Rattle.vp_label.specs.declared.gathered.Effect.{Effect}
use Rattle.vp_label.specs.declared.gathered.Effect.TheVariants.{Sets, Begins, Closes, Prints}

-- outside a format ^XA begins one; inside, ^FS closes a field, and ^XZ prints
abbrev pub effect_of : Bool → Command → Effect
effect_of false FormatStart = Begins
effect_of false _ = Sets
effect_of true FieldSeparator = Closes
effect_of true FormatEnd = Prints
effect_of true _ = Sets
