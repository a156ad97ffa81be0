use Rattle.std.proofs.Common.{◌≡◌, ◌≤◌, length}
use Rattle.vp_fields_by_band.specs.Threads.{KeepsSpans, ThreadedFrom}
use Rattle.vp_fields_by_band.proofs.table.thread_all.Given as goal

abbrev pub invariant-loop-k : goal.invariant-loop-k
invariant-loop-k l = record {
  within : l.k ≤ length l.entries;
  lengths : (length l.entries ≡ length l.initial.entries) × (length l.heads ≡ length l.initial.heads);
  spans : KeepsSpans l.initial.entries l.entries;
  table : ThreadedFrom l.entries l.heads l.k;
}

abbrev pub decreases-loop-k : goal.decreases-loop-k
decreases-loop-k l = l.k
