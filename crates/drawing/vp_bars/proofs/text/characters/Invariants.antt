use Rattle.std.proofs.Common.{◌≡◌, ◌≤◌, ◌++◌, length, drop}
use Rattle.vp_bars.specs.Texts.{characters}
use Rattle.vp_bars.proofs.text.characters.Given as goal

-- the text so far, and that of the values that are left
abbrev pub invariant-loop-v : goal.invariant-loop-v
invariant-loop-v l = record { all : characters l.values ≡ l.text.items ++ characters (drop l.v-index l.values); few : length l.text.items ≤ l.v-index }
