use Rattle.std.proofs.Common.{refl}
use Rattle.vp_receipt_settings.proofs.settings.Settings.symbol_top.Goals as goal

pub returns : goal.returns
returns c = λ setup before e. rw (c.vertical_after.ensures, c.ended_rows.ensures.history setup before e, e) refl
