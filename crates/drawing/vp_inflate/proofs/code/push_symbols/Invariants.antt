use Rattle.std.proofs.Common.{◌≡◌, ◌+◌, ◌++◌, drop}
use Rattle.arrayvec.specs.ArrayVec.{array_vec_len}
use Rattle.vp_inflate.specs.Codes.{count, symbols_from}
use Rattle.vp_inflate.proofs.code.push_symbols.Given as goal

abbrev pub invariant-loop-symbol : goal.invariant-loop-symbol
invariant-loop-symbol l = record {
  symbols : l.symbols.items ++ symbols_from l.symbol l.bits (drop l.symbol l.lengths) ≡ l.fn.symbols.items ++ symbols_from 0 l.bits l.lengths;
  count : l.count + count l.bits (drop l.symbol l.lengths) ≡ count l.bits l.lengths;
  long : array_vec_len l.symbols ≡ array_vec_len l.fn.symbols + l.count;
}
