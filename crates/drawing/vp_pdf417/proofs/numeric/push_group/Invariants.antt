use Rattle.std.proofs.Common.{◌≡◌, ◌-◌}
use Rattle.vp_pdf417.specs.Places.{base_900}
use Rattle.vp_pdf417.specs.Numeric.{number}
use Rattle.vp_pdf417.specs.Written.{written}
use Rattle.vp_pdf417.proofs.numeric.push_group.Given as goal

abbrev pub invariant-loop-k : goal.invariant-loop-k
invariant-loop-k l = written l.words (base_900 (l.n - l.k) (number 1 l.digits)) ≡ written l.fn.words (base_900 l.n (number 1 l.digits))
