use Rattle.std.proofs.Common.{◌≡◌, ◌+◌, ◌*◌, ◌≤◌, drop}
use Rattle.vp_bars.specs.CodeSets.{placed}
use Rattle.vp_bars.proofs.code_128.check_character.Given as goal

-- the sum so far, and that of the values that are left
abbrev pub invariant-loop-v : goal.invariant-loop-v
invariant-loop-v l = record {
  all : l.start + placed 1 l.values ≡ l.sum + placed l.place (drop l.v-index l.values);
  at : l.place ≡ l.v-index + 1;
  small : l.sum ≤ 255 + 66045 * l.v-index;
}
