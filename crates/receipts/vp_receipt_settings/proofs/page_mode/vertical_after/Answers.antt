use Rattle.std.proofs.Common.{arith}
use Rattle.vp_receipt_settings.proofs.page_mode.vertical_after.Goals as goal

pub returns : goal.returns
returns c = omega arith
