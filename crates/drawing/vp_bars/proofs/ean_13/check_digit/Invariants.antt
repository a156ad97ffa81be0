use Rattle.std.proofs.Common.{◌≡◌, ◌+◌, ◌*◌, ◌≤◌, drop}
use Rattle.vp_bars.specs.Ean13.{weighted}
use Rattle.vp_bars.proofs.ean_13.check_digit.Given as goal

-- the sum so far, and that of the digits that are left
abbrev pub invariant-loop-d : goal.invariant-loop-d
invariant-loop-d l = record {
  all : weighted 1 l.digits ≡ l.sum + weighted l.weight (drop l.d-index l.digits);
  light : l.weight ≤ 4;
  small : l.sum ≤ 1020 * l.d-index;
}
