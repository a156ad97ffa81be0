use Rattle.std.proofs.Common.{◌≡◌, ℕ, ◌+◌, ◌<◌, ◌≤◌, get_or}
use Rattle.vp_reed_solomon.specs.Fields.{order, difference, times}
use Rattle.vp_reed_solomon.proofs.remainder.take.Given as goal

abbrev pub invariant-loop-k : goal.invariant-loop-k
invariant-loop-k l = record {
  made : (j : ℕ) → j < l.k → get_or l.register j 0 ≡ difference l.field (get_or l.fn.register (j + 1) 0) (times l.field l.factor (get_or l.low j 0));
  kept : (j : ℕ) → l.k ≤ j → get_or l.register j 0 ≡ get_or l.fn.register j 0;
  elements : (j : ℕ) → get_or l.register j 0 < order l.field;
}
