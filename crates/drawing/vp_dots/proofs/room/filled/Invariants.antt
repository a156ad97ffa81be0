use Rattle.std.proofs.Common.{◌≡◌, replicate, vec_capacity}
use Rattle.vp_dots.proofs.room.filled.Given as goal

abbrev pub invariant-loop : goal.invariant-loop
invariant-loop g l = record {
  items : l.values.items ≡ replicate l.counter l.value;
  room : vec_capacity l.values ≡ l.count;
}
