use Rattle.std.proofs.Common.{◌≡◌, ℕ, ◌-◌, ◌*◌, ◌%◌, ◌^◌, ◌<◌, ◌&&◌, not, sym, ◌∙◌, arith}
use Rattle.vp_qr.specs.Penalty.{is_set}
use Rattle.vp_qr.specs.Walk.{dark}
use Rattle.vp_qr.proofs.Counting.{sum_set}
use Rattle.vp_qr.proofs.Modules.{both, other}
use Rattle.vp_qr.proofs.Runs.{five, five_before, five_at, moved_up, runs_are, penalty_is}
use Rattle.vp_qr.proofs.mask.runs_penalty.Goals as goal

pub returns-clause-penalty : goal.returns-clause-penalty
returns-clause-penalty c =
    let f = is_set c.args.line in
    let n : ℕ = c.args.size - 4 in
    let fives : ℕ = c.fives-fives.result in
    let here : (j : ℕ) → j < 64 → is_set fives j ≡ five f j =
    λ j h. c.fives-fives.ensures j h ∙ five_at f (λ k. dark c.shifted.result k j) j (λ k lt. c.shifted.ensures k j (omega arith)) in
    penalty_is n c.ones.result c.ones-2.result (five f) (five_before f)
    (c.ones.ensures.value ∙ sum_set fives n (five f) (λ j h. here j (omega arith)))
    (c.ones-2.ensures.value
    ∙ sum_set _ n (λ j. five f j && not (five_before f j))
    (λ j h. both j (omega arith) _ _ _ _ (here j (omega arith)) (other j (omega arith) (fives * 2 % 2 ^ 64) _ (omega arith) (moved_up fives f here j (omega arith)))))
    ∙ sym (runs_are f c.args.size (omega arith))
