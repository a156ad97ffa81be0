use Rattle.std.proofs.Common.{◌≡◌, ℕ, ◌<◌, ◌≤◌, drop, length, get_or}
use Rattle.vp_reed_solomon.specs.Fields.{order, difference}
use Rattle.vp_reed_solomon.proofs.Division.{Registers}
use Rattle.vp_reed_solomon.proofs.remainder.check.Given as goal

abbrev pub invariant-loop-word : goal.invariant-loop-word
invariant-loop-word l = record {
  registers : Registers l.field l.low l.words (length l.low) (drop l.word-index l.words) l.check;
  elements : (k : ℕ) → get_or l.check k 0 < order l.field;
}

abbrev pub invariant-loop-left : goal.invariant-loop-left
invariant-loop-left l = record {
  made : (k : ℕ) → k < l.left-index → get_or l.check k 0 ≡ difference l.field 0 (get_or l.initial.check k 0);
  kept : (k : ℕ) → l.left-index ≤ k → get_or l.check k 0 ≡ get_or l.initial.check k 0;
  elements : (k : ℕ) → get_or l.check k 0 < order l.field;
}
