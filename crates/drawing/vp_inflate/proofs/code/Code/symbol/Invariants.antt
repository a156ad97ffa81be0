use Rattle.std.proofs.Common.{◌≡◌, ◌*◌, ◌^◌, ◌<◌, ◌≤◌, drop, length}
use Rattle.vp_inflate.specs.Codes.{counts, ordered, symbol_in, symbol_of}
use Rattle.vp_inflate.proofs.code.Code.symbol.Given as goal

abbrev pub invariant-loop-n : goal.invariant-loop-n
invariant-loop-n l = record {
  read : symbol_in (drop l.n-index (counts 15 l.self)) (ordered 15 l.self) l.before l.beyond l.left ≡ symbol_of l.self l.held;
  small : l.beyond < 2 ^ l.n-index;
  few : l.before ≤ 65536 * l.n-index;
  less : length l.left ≤ length l.held;
}
