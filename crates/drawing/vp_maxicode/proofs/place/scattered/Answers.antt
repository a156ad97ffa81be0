use Rattle.std.proofs.Common.{◌+◌, ◌*◌, eqb, get_or, sym, ◌∙◌, arith}
use Rattle.std.proofs.lemmas.Bool.{eq-eqb, ne_eqb}
use Rattle.vp_maxicode.specs.declared.place.TheConstants.{SCATTERED}
use Rattle.vp_maxicode.specs.Places.{scattered}
use Rattle.vp_maxicode.proofs.FirstFrom.{first_step, first_found}
use Rattle.vp_maxicode.proofs.place.scattered.Goals as goal

pub loop-k-preserved : goal.loop-k-preserved
loop-k-preserved c =
    first_step (λ k. eqb (get_or SCATTERED k 0) (30 * c.args.row + c.args.column)) c.loop-k.k 54 _ (omega arith)
    (ne_eqb _ _ (λ e. c.if-from-row.false (c.from.ensures ∙ e))) c.loop-k.invariant

pub returns-then-from-row-clause-number : goal.returns-then-from-row-clause-number
unfolding scattered
returns-then-from-row-clause-number c =
    first_found (λ k. eqb (get_or SCATTERED k 0) (30 * c.args.row + c.args.column)) c.loop-k.k 54 _ (omega arith)
    (eq-eqb _ _ (sym c.from.ensures ∙ c.if-from-row.true)) c.loop-k.invariant
