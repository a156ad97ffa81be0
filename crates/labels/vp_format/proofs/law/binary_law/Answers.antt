use Rattle.std.proofs.Common.{◌+◌, ◌*◌, ◌-◌, arith}
use Rattle.vp_format.specs.Pictures.{place_of, width_of, is_refused}
use Rattle.vp_format.proofs.Marks.{value-at}
use Rattle.vp_format.proofs.Bytes.{bytes_shown}
use Rattle.vp_format.proofs.law.binary_law.Goals as goal

pub returns-clause-value : goal.returns-clause-value
unfolding place_of
returns-clause-value c p y x k = grind (arith, value-at, bytes_shown (width_of p) 0 p.codes (width_of p * y + x))

pub returns-clause-taken : goal.returns-clause-taken
unfolding is_refused place_of
returns-clause-taken c p y k = grind (arith, bytes_shown (width_of p) 0 p.codes (width_of p * y + (width_of p - 1)))
