use Rattle.std.proofs.Common.{refl}
use Rattle.vp_receipt_settings.proofs.settings.shift.Goals as goal

pub returns-in-Centre : goal.returns-in-Centre
returns-in-Centre c = rw c.in-Centre.is refl
