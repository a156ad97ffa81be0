use Rattle.std.proofs.Common.{◌≡◌, ◌*◌, ◌≤◌, ◌++◌, length, drop}
use Rattle.vp_bars.specs.Interleaved.{pairs_shown}
use Rattle.vp_bars.proofs.interleaved.shown_pairs.Given as goal

-- the text so far, and that of the values that are left
abbrev pub invariant-loop-v : goal.invariant-loop-v
invariant-loop-v l = record { all : pairs_shown l.values ≡ l.text.items ++ pairs_shown (drop l.v-index l.values); few : length l.text.items ≤ 2 * l.v-index }
