use Rattle.std.proofs.Common.{◌≡◌, ◌+◌, ◌*◌, ◌++◌, length, drop}
use Rattle.std.specs.List.{flat_map}
use Rattle.vp_bars.specs.AddOn.{behind_separator, separated}
use Rattle.vp_bars.proofs.add_on.push_separated.Given as goal

-- the values so far, and those that are left
abbrev pub invariant-loop-v : goal.invariant-loop-v
invariant-loop-v l = record {
  all : l.fn.values.items ++ separated l.from ≡ l.values.items ++ flat_map behind_separator (drop l.v-index l.others);
  count : length l.values.items ≡ length l.fn.values.items + 1 + 2 * l.v-index;
}
