use Rattle.std.proofs.Common.{refl}
use Rattle.vp_receipt_settings.proofs.settings.Settings.printed_at.Goals as goal

pub returns : goal.returns
returns c = λ setup before e. rw (c.shift.ensures, c.min-shown.ensures, c.from.ensures, c.paper_length-length.ensures.value, e) refl
