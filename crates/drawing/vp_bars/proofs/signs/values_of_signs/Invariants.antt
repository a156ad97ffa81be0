use Rattle.std.proofs.Common.{◌≡◌, ◌++◌, ◌<◌, drop, length}
use Rattle.std.specs.List.{All}
use Rattle.std.specs.Option.{option_map}
use Rattle.vp_bars.specs.Signs.{values_among}
use Rattle.vp_bars.proofs.signs.values_of_signs.Given as goal

-- the values so far, and those of the signs that are left
abbrev pub invariant-loop-c : goal.invariant-loop-c
invariant-loop-c l = record {
  all : values_among l.alphabet l.signs ≡ option_map (λ ws. l.values.items ++ ws) (values_among l.alphabet (drop l.c-index l.signs));
  count : length l.values.items ≡ l.c-index;
  small : All (λ v. v < length l.alphabet) l.values.items;
}
