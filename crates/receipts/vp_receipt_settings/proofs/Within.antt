-- What an effect puts is within the line and within the page.
use Rattle.std.proofs.Common.{not, nat_lt, arith, pos, negsuc}
use Rattle.std.proofs.lemmas.Bool.Decides.{nat_tests}
use Rattle.vp_esc.specs.declared.item.EscItem.{EscItem}
use Rattle.vp_receipt_settings.specs.declared.settings.Settings.{Settings}
use Rattle.vp_receipt_settings.proofs.Widths.{few_dots}
use Rattle.vp_receipt_settings.specs.Settings.{IsFit}
use Rattle.vp_receipt_settings.specs.Effects.{effect_of}
use Rattle.vp_receipt_settings.specs.Followed.{IsWithin}

pub within : (s : Settings) (item : EscItem) → IsFit s → IsWithin (effect_of s item)
within s item f = grind (arith, nat_tests, few_dots, pos, negsuc, nat_lt, not)
