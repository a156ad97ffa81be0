use Rattle.std.proofs.Common.{◌≡◌, ℕ, ◌<◌, ◌≤◌, ◌∷◌, get_or}
use Rattle.vp_reed_solomon.specs.Fields.{order, difference, times}
use Rattle.vp_reed_solomon.proofs.remainder.with_root.Given as goal

abbrev pub invariant-loop-k : goal.invariant-loop-k
invariant-loop-k l = record {
  made : (j : ℕ) → j < l.k → get_or l.low j 0 ≡ difference l.field (get_or l.fn.low j 0) (times l.field l.root (get_or (1 ∷ l.fn.low) j 0));
  kept : (j : ℕ) → l.k ≤ j → get_or l.low j 0 ≡ get_or l.fn.low j 0;
  above : l.above ≡ get_or (1 ∷ l.fn.low) l.k 0;
  element : l.above < order l.field;
  elements : (j : ℕ) → get_or l.low j 0 < order l.field;
}
