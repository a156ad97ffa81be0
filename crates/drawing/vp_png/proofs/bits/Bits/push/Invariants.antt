use Rattle.std.proofs.Common.{◌≡◌, ◌+◌, ◌*◌, ◌^◌, ◌<◌, ◌≤◌, ◌++◌, length}
use Rattle.vp_png.specs.Bits.{low_bits, bits_of}
use Rattle.vp_png.specs.Kept.{bits_in}
use Rattle.vp_png.proofs.bits.Bits.push.Given as goal

abbrev pub invariant-loop-count : goal.invariant-loop-count
invariant-loop-count l = record {
  few : l.count ≤ 23;
  within : l.held < 2 ^ l.count;
  bits : bits_of l.self.bytes.items ++ low_bits l.count l.held ≡ bits_in l.fn.self ++ low_bits l.fn.n l.fn.value;
  room : 8 * length l.self.bytes.items + l.count ≤ 8 * 2048;
}

abbrev pub decreases-loop-count : goal.decreases-loop-count
decreases-loop-count l = l.count
