use Rattle.std.proofs.Common.{◌≡◌}
use Rattle.arrayvec.specs.ArrayVec.{array_vec_len}
use Rattle.vp_inflate.specs.Codes.{counts, ordered}
use Rattle.vp_inflate.proofs.code.order.Given as goal

abbrev pub invariant-loop-n : goal.invariant-loop-n
invariant-loop-n l = record {
  counts : l.numbers.items ≡ counts l.n l.lengths;
  symbols : l.symbols.items ≡ ordered l.n l.lengths;
  long : array_vec_len l.numbers ≡ l.n;
}
