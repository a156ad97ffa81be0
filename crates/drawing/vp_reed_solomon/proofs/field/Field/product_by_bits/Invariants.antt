use Rattle.std.proofs.Common.{◌≡◌, ◌-◌, ◌<◌, ◌^◌, bit_xor}
use Rattle.vp_reed_solomon.specs.Fields.{degree, times_bits}
use Rattle.vp_reed_solomon.proofs.field.Field.product_by_bits.Given as goal

abbrev pub invariant-loop : goal.invariant-loop
invariant-loop l = record {
  rest : bit_xor l.sum (times_bits l.self (degree l.self - l.counter) l.term l.bits) ≡ times_bits l.self (degree l.self) l.a l.b;
  term : l.term < 2 ^ degree l.self;
  sum : l.sum < 2 ^ degree l.self;
}
