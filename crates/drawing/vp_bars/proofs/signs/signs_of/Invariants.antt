use Rattle.std.proofs.Common.{◌≡◌, ◌≤◌, ◌++◌, length, drop}
use Rattle.vp_bars.specs.Signs.{signs_of}
use Rattle.vp_bars.proofs.signs.signs_of.Given as goal

-- the text so far, and that of the values that are left
abbrev pub invariant-loop-v : goal.invariant-loop-v
invariant-loop-v l = record { all : signs_of l.alphabet l.values ≡ l.text.items ++ signs_of l.alphabet (drop l.v-index l.values); few : length l.text.items ≤ l.v-index }
