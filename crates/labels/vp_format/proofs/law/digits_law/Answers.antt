use Rattle.std.proofs.Common.{◌+◌, ◌*◌, ◌-◌, arith}
use Rattle.vp_format.specs.Pictures.{place_of, width_of, is_refused}
use Rattle.vp_format.proofs.Marks.{value-at}
use Rattle.vp_format.proofs.Places.{digits_shown}
use Rattle.vp_format.proofs.law.digits_law.Goals as goal

pub returns-clause-value : goal.returns-clause-value
unfolding place_of
returns-clause-value c p values y x k h = grind (arith, value-at, digits_shown (width_of p) 0 (width_of p * y + x) h)

pub returns-clause-taken : goal.returns-clause-taken
unfolding is_refused place_of
returns-clause-taken c p values y k h = grind (arith, digits_shown (width_of p) 0 (width_of p * y + (width_of p - 1)) h)
