use Rattle.std.proofs.Common.{◌≡◌, ◌++◌, replicate}
use Rattle.vp_inflate.proofs.reader.with_run.Given as goal

abbrev pub invariant-loop : goal.invariant-loop
invariant-loop l = l.all.items ≡ l.came ++ replicate l.counter l.value
