use Rattle.std.proofs.Common.{◌≡◌, ◌+◌, ◌*◌, ◌≤◌, drop}
use Rattle.vp_inflate.specs.Tables.{shares}
use Rattle.vp_inflate.proofs.table.shares.Given as goal

abbrev pub invariant-loop-bits : goal.invariant-loop-bits
invariant-loop-bits l = record {
  sum : l.all + shares (drop l.bits-index l.lengths) ≡ shares l.lengths;
  few : l.all ≤ 32768 * l.bits-index;
}
