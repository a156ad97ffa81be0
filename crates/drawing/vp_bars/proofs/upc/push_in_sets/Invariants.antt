use Rattle.std.proofs.Common.{◌≡◌, ◌+◌, ◌++◌, length, drop}
use Rattle.vp_bars.specs.Upc.{in_sets}
use Rattle.vp_bars.proofs.upc.push_in_sets.Given as goal

-- the values so far, and those of the digits that are left
abbrev pub invariant-loop-i : goal.invariant-loop-i
invariant-loop-i l = record {
  all : l.fn.values.items ++ in_sets l.sets l.digits ≡ l.values.items ++ in_sets (drop l.i l.sets) (drop l.i l.digits);
  count : length l.values.items ≡ length l.fn.values.items + l.i;
}
