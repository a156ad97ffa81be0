use Rattle.std.proofs.Common.{length}
use Rattle.vp_plain_loop.proofs.print.drain.Given as goal

abbrev pub decreases-rooms : goal.decreases-rooms
decreases-rooms l = length l.printer.pending
