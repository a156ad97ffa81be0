use Rattle.std.proofs.Common.{◌≡◌, ◌+◌, ◌*◌, ◌≤◌, length, take, reverse}
use Rattle.vp_bars.specs.Checks.{in_turn}
use Rattle.vp_bars.proofs.checks.weighed.Given as goal

-- the sum so far, and that of the values that are left
abbrev pub invariant-loop-i : goal.invariant-loop-i
invariant-loop-i l = record {
  all : in_turn l.first l.last l.first (reverse l.values) ≡ l.sum + in_turn l.first l.last l.weight (reverse (take l.i l.values));
  light : l.weight ≤ l.last;
  small : l.sum + 5100 * l.i ≤ 5100 * length l.values;
}
