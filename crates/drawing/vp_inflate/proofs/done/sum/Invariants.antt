use Rattle.std.proofs.Common.{◌≡◌, ◌<◌, take, reverse}
use Rattle.vp_inflate.specs.Headers.{low_sum, high_sum}
use Rattle.vp_inflate.proofs.done.sum.Given as goal

abbrev pub invariant-loop-byte : goal.invariant-loop-byte
invariant-loop-byte l = record {
  low : l.low ≡ low_sum (reverse (take l.byte-index l.done));
  high : l.high ≡ high_sum (reverse (take l.byte-index l.done));
  low_within : l.low < 65521;
  high_within : l.high < 65521;
}
