use Rattle.std.proofs.Common.{◌+◌, length, min}
use Rattle.vp_plain_loop.proofs.print.print.Given as goal

-- where nothing is pending, a step takes a byte
abbrev pub decreases-steps : goal.decreases-steps
decreases-steps l = length l.left + min (length l.printer.pending) 1
