use Rattle.std.proofs.Common.{◌≡◌, ◌+◌, ◌*◌, ◌≤◌, length, take, reverse}
use Rattle.vp_bars.specs.Ean13.{weighted}
use Rattle.vp_bars.proofs.checks.mod10_check.Given as goal

-- the sum so far, and that of the digits that are left
abbrev pub invariant-loop-i : goal.invariant-loop-i
invariant-loop-i l = record {
  all : weighted 3 (reverse l.digits) ≡ l.sum + weighted l.weight (reverse (take l.i l.digits));
  light : l.weight ≤ 4;
  small : l.sum + 1020 * l.i ≤ 1020 * length l.digits;
}
