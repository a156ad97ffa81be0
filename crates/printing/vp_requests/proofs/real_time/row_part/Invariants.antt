use Rattle.std.proofs.Common.{◌≡◌, ◌≤◌, length, drop}
use Rattle.vp_requests.specs.RealTime.{row_part as row_is}
use Rattle.vp_requests.proofs.real_time.row_part.Given as goal

abbrev pub invariant-loop-i : goal.invariant-loop-i
invariant-loop-i l = record {
  within : l.i ≤ length l.args;
  same : row_is l.row l.args ≡ row_is (drop l.i l.row) (drop l.i l.args);
}
