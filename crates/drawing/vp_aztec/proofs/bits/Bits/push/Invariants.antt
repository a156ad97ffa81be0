use Rattle.std.proofs.Common.{◌≡◌, ◌+◌, ◌-◌, ◌++◌, length}
use Rattle.vp_aztec.specs.Stuffing.{number}
use Rattle.vp_aztec.proofs.bits.Bits.push.Given as goal

abbrev pub invariant-loop-k : goal.invariant-loop-k
invariant-loop-k l = record {
  full : l.self-inside.full ≡ l.initial.self-inside.full;
  made : l.self-inside.items.items ++ number (l.n - l.k) l.value ≡ l.initial.self-inside.items.items ++ number l.n l.value;
  long : length l.self-inside.items.items ≡ length l.initial.self-inside.items.items + l.k;
}
