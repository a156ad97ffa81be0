use Rattle.std.proofs.Common.{◌≡◌, replicate}
use Rattle.vp_bars.proofs.upc.padded.Given as goal

abbrev pub invariant-loop : goal.invariant-loop
invariant-loop l = l.all.items ≡ replicate l.counter 0
