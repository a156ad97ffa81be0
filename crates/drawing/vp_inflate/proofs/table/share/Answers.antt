use Rattle.std.proofs.Common.{sym}
use Rattle.vp_inflate.proofs.TableWords.{share_none}
use Rattle.vp_inflate.proofs.table.share.Goals as goal

pub returns-then-bits-gt15-clause-share : goal.returns-then-bits-gt15-clause-share
returns-then-bits-gt15-clause-share c = sym (share_none c.args.bits c.if-bits-gt15.true)
