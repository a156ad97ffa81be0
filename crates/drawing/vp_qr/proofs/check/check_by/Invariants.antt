use Rattle.std.proofs.Common.{drop}
use Rattle.vp_qr.specs.Divisors.{low_row}
use Rattle.vp_qr.proofs.Division.{Registers}
use Rattle.vp_qr.proofs.check.check_by.Given as goal

abbrev pub invariant-loop-byte : goal.invariant-loop-byte
invariant-loop-byte l = Registers (low_row l.n) l.src 32 (drop l.byte-index l.src) l.register
