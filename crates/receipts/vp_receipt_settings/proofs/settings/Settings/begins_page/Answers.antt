use Rattle.std.proofs.Common.{refl}
use Rattle.vp_receipt_settings.proofs.settings.Settings.begins_page.Goals as goal

pub returns-in-Standard : goal.returns-in-Standard
returns-in-Standard c = rw c.in-Standard.is refl
