use Rattle.std.proofs.Common.{◌≡◌, ◌+◌, ◌-◌, ◌≤◌, drop, length}
use Rattle.std.specs.List.{prefix_len}
use Rattle.vp_zpl.specs.Runs.{is_kept_code}
use Rattle.vp_zpl.proofs.front.wide_front.Given as goal

abbrev pub invariant-loop-at : goal.invariant-loop-at
invariant-loop-at l = record {
  inside : l.at ≤ length l.input;
  front : prefix_len is_kept_code l.input ≡ l.at + prefix_len is_kept_code (drop l.at l.input);
}

abbrev pub decreases-loop-at : goal.decreases-loop-at
decreases-loop-at l = length l.input - l.at
