use Rattle.std.proofs.Common.{◌≡◌, ◌+◌, ◌-◌, ◌++◌, length}
use Rattle.vp_data_matrix.specs.Pads.{pads_from}
use Rattle.vp_data_matrix.proofs.pad.push_pads.Given as goal

abbrev pub invariant-loop-position : goal.invariant-loop-position
invariant-loop-position l = record {
  written : l.words.items ++ pads_from l.position (l.capacity + 1 - l.position) ≡ l.initial.words.items ++ pads_from (length l.initial.words.items + 1) (l.capacity + 1 - (length l.initial.words.items + 1));
  count : length l.words.items + 1 ≡ l.position;
}
