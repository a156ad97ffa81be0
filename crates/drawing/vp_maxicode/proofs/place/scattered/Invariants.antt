use Rattle.std.proofs.Common.{◌≡◌, ◌+◌, ◌-◌, ◌*◌, eqb, get_or}
use Rattle.vp_maxicode.specs.declared.place.TheConstants.{SCATTERED}
use Rattle.vp_maxicode.specs.Places.{first_from}
use Rattle.vp_maxicode.proofs.place.scattered.Given as goal

abbrev pub invariant-loop-k : goal.invariant-loop-k
invariant-loop-k l = first_from (λ k. eqb (get_or SCATTERED k 0) (30 * l.row + l.column)) l.k (54 - l.k) ≡ first_from (λ k. eqb (get_or SCATTERED k 0) (30 * l.row + l.column)) 0 54
