use Rattle.std.proofs.Common.{refl}
use Rattle.vp_receipt_settings.proofs.settings.Settings.text_room.Goals as goal

pub returns : goal.returns
returns c = rw (c.saturating_sub.ensures, c.line_length.ensures.value, c.advance.ensures.value) refl
