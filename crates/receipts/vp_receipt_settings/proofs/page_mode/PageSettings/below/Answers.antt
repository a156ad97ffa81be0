use Rattle.std.proofs.Common.{refl}
use Rattle.vp_receipt_settings.proofs.page_mode.PageSettings.below.Goals as goal

pub returns-clause-value : goal.returns-clause-value
returns-clause-value c = rw (c.vertical_after.ensures, c.raised.ensures.value) refl
