use Rattle.std.proofs.Common.{◌≡◌, drop}
use Rattle.vp_aztec.specs.Runs.{byte_codes}
use Rattle.vp_aztec.specs.Written.{written}
use Rattle.vp_aztec.proofs.run.push_bytes.Given as goal

abbrev pub invariant-loop-byte : goal.invariant-loop-byte
invariant-loop-byte l = written l.bits (byte_codes (drop l.byte-index l.src)) ≡ written l.fn.bits (byte_codes l.src)
