use Rattle.std.proofs.Common.{refl}
use Rattle.vp_receipt_settings.proofs.settings.Settings.without_line.Goals as goal

pub returns : goal.returns
returns c = rw c.closed.ensures refl
