use Rattle.std.proofs.Common.{◌≡◌, ◌+◌, ◌*◌, ◌≤◌, true, length, take, reverse}
use Rattle.vp_bars.specs.Msi.{doubled_sum}
use Rattle.vp_bars.proofs.msi.doubled_sum.Given as goal

-- the sum so far, and that of the digits that are left
abbrev pub invariant-loop-i : goal.invariant-loop-i
invariant-loop-i l = record {
  all : doubled_sum true (reverse l.digits) ≡ l.sum + doubled_sum l.twice (reverse (take l.i l.digits));
  small : l.sum + 501 * l.i ≤ 501 * length l.digits;
}
