use Rattle.std.proofs.Common.{◌≡◌, ◌+◌, ◌-◌, ◌≤◌, length}
use Rattle.vp_aztec.specs.Stuffing.{words_from, stuffed}
use Rattle.vp_aztec.proofs.stuffing.count.Given as goal

abbrev pub invariant-loop : goal.invariant-loop
invariant-loop l = record {
  made : l.count + length (words_from (length l.bits - l.counter) l.w l.bits l.i) ≡ length (stuffed l.w l.bits);
  few : l.count ≤ l.counter;
  place : l.i ≤ length l.bits + 12;
}
