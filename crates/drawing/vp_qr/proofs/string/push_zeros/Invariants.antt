use Rattle.std.proofs.Common.{◌≡◌, ◌++◌, replicate, false}
use Rattle.vp_qr.proofs.string.push_zeros.Given as goal

abbrev pub invariant-loop : goal.invariant-loop
invariant-loop l = l.string.items ≡ l.initial.string.items ++ replicate l.counter false
