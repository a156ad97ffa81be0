use Rattle.std.proofs.Common.{◌≡◌, ℕ, ◌+◌, ◌-◌, ◌^◌, ◌<◌, ◌≤◌, ◌++◌, length, get_or}
use Rattle.vp_aztec.specs.Stuffing.{words_from, stuffed}
use Rattle.vp_aztec.proofs.stuffing.stuffed.Given as goal

abbrev pub invariant-loop : goal.invariant-loop
invariant-loop l = record {
  made : l.words.items ++ words_from (length l.bits - l.counter) l.w l.bits l.i ≡ stuffed l.w l.bits;
  small : (k : ℕ) → get_or l.words.items k 0 < 2 ^ l.w;
  place : l.i ≤ length l.bits + 12;
}
