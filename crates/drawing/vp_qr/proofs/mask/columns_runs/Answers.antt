use Rattle.std.proofs.Common.{◌≡◌, ℕ, suc, ◌+◌, ◌-◌, ◌*◌, ◌&&◌, not, ap, sym, ◌∙◌, arith}
use Rattle.vp_qr.specs.Penalty.{sum_below}
use Rattle.vp_qr.specs.Walk.{dark}
use Rattle.vp_qr.proofs.Counting.{sum_more, sum_same, sum_set, sum_swap}
use Rattle.vp_qr.proofs.Modules.{both, other, is_set_zero}
use Rattle.vp_qr.proofs.Runs.{five, five_before, five_penalty, runs_are, penalty_is}
use Rattle.vp_qr.proofs.mask.columns_runs.Goals as goal

pub loop-at-init : goal.loop-at-init
loop-at-init c = (omega arith, omega arith, omega arith, λ j h. is_set_zero j)

pub loop-at-preserved : goal.loop-at-preserved
loop-at-preserved c =
    let rows = c.args.rows.now in
    let s : ℕ = c.args.size in
    let at : ℕ = c.loop-at.at in
    let next : suc at ≡ at + 1 = omega arith in
    let columns = λ (p : ℕ). sum_below s (λ j. five_penalty (λ i. dark rows i j) p) in (
      ap (λ m. m + (c.ones.result + 2 * c.ones-in-loop-at.result)) c.loop-at.invariant.0
          ∙ ap (λ m. sum_below at columns + m)
          (penalty_is s c.ones.result c.ones-in-loop-at.result (λ j. five (λ i. dark rows i j) at) (λ j. five_before (λ i. dark rows i j) at)
          (c.ones.ensures.value ∙ sum_set c.fives-fives.result s (λ j. five (λ i. dark rows i j) at) (λ j h. c.fives-fives.ensures j (omega arith)))
          (c.ones-in-loop-at.ensures.value
          ∙ sum_set _ s (λ j. five (λ i. dark rows i j) at && not (five_before (λ i. dark rows i j) at))
          (λ j h. both j (omega arith) _ _ _ _ (c.fives-fives.ensures j (omega arith)) (other j (omega arith) c.loop-at.above _ (omega (arith, c.loop-at.invariant.2)) (c.loop-at.invariant.3 j (omega arith))))))
          ∙ sym (sum_more at columns),
      omega (arith, c.loop-at.invariant.1, c.ones.ensures.most, c.ones-in-loop-at.ensures.most),
      c.fives-fives.type_inv,
      λ j h. c.fives-fives.ensures j h ∙ ap (five_before (λ i. dark rows i j)) next,
    )

pub returns-clause-penalty : goal.returns-clause-penalty
returns-clause-penalty c =
    let end : c.loop-at.at ≡ c.args.size - 4 = omega (arith, c.loop-at-test.false, c.loop-at.auto.at-end) in
    rw (c.loop-at.invariant.0, end, sum_swap (c.args.size - 4) c.args.size (λ p j. five_penalty (λ i. dark c.args.rows.now i j) p))
    (sum_same c.args.size (λ j. sum_below (c.args.size - 4) (five_penalty (λ i. dark c.args.rows.now i j))) _ (λ j _. sym (runs_are (λ i. dark c.args.rows.now i j) c.args.size (omega arith))))
