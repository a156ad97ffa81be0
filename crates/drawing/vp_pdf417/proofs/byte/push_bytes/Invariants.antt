use Rattle.std.proofs.Common.{◌≡◌, drop, length}
use Rattle.vp_pdf417.specs.Bytes.{byte_latch, by_six}
use Rattle.vp_pdf417.specs.Written.{pushed, written}
use Rattle.vp_pdf417.proofs.byte.push_bytes.Given as goal

abbrev pub invariant-loop-left : goal.invariant-loop-left
invariant-loop-left l = written l.words (by_six l.left) ≡ written (pushed l.fn.words (byte_latch l.src)) (by_six l.src)

abbrev pub decreases-loop-left : goal.decreases-loop-left
decreases-loop-left l = length l.left

abbrev pub invariant-loop-byte : goal.invariant-loop-byte
invariant-loop-byte l = written l.words (drop l.byte-index l.byte-items) ≡ written (pushed l.fn.words (byte_latch l.src)) (by_six l.src)
