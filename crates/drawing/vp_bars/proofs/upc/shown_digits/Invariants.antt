use Rattle.std.proofs.Common.{◌≡◌, ◌≤◌, ◌++◌, length, drop}
use Rattle.vp_bars.specs.Upc.{digits_shown}
use Rattle.vp_bars.proofs.upc.shown_digits.Given as goal

-- the text so far, and that of the values that are left
abbrev pub invariant-loop-v : goal.invariant-loop-v
invariant-loop-v l = record { all : digits_shown l.values ≡ l.text.items ++ digits_shown (drop l.v-index l.values); few : length l.text.items ≤ l.v-index }
