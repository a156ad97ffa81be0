use Rattle.std.proofs.Common.{◌≡◌, ◌++◌, drop, length}
use Rattle.std.specs.Option.{option_map}
use Rattle.vp_bars.specs.Code39.{values_of}
use Rattle.vp_bars.proofs.code_39.values_of_chars.Given as goal

-- the values so far, and those of the characters that are left
abbrev pub invariant-loop-c : goal.invariant-loop-c
invariant-loop-c l = record {
  all : values_of l.chars ≡ option_map (λ ws. l.values.items ++ ws) (values_of (drop l.c-index l.chars));
  count : length l.values.items ≡ l.c-index;
}
