use Rattle.std.proofs.Common.{refl}
use Rattle.vp_receipt_settings.proofs.settings.Settings.feed_rows.Goals as goal

pub returns : goal.returns
returns c = rw (c.max.ensures, c.from.ensures, c.from-2.ensures) refl
