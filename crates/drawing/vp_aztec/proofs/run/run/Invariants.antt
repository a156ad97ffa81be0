use Rattle.std.proofs.Common.{◌≡◌, ◌+◌, ◌-◌, ◌≤◌, length, drop}
use Rattle.vp_aztec.specs.Runs.{run, longest}
use Rattle.vp_aztec.proofs.run.run.Given as goal

abbrev pub invariant-loop-k : goal.invariant-loop-k
invariant-loop-k l = record {
  run : l.k + run (longest - l.k) (drop l.k l.src) ≡ run longest l.src;
  within : l.k ≤ length l.src;
}
