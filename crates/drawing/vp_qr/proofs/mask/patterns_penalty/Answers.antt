use Rattle.std.proofs.Common.{◌≡◌, ℕ, ◌+◌, ◌-◌, ◌*◌, ap, sym, ◌∙◌, arith}
use Rattle.vp_qr.specs.Penalty.{is_set, line_from}
use Rattle.vp_qr.specs.Walk.{dark}
use Rattle.vp_qr.proofs.Counting.{sum_set, line_moved}
use Rattle.vp_qr.proofs.Patterns.{found, patterns_are}
use Rattle.vp_qr.proofs.mask.patterns_penalty.Goals as goal

pub returns-clause-penalty : goal.returns-clause-penalty
returns-clause-penalty c =
    let line : ℕ = c.args.line in
    let shifts = c.shifted.result in
    ap (λ n. 40 * n)
    (c.ones.ensures.value
    ∙ sum_set c.patterns.result (c.args.size - 10) (λ j. found (line_from (is_set line) j 11))
    (λ j h. c.patterns.ensures j (omega arith)
    ∙ ap found (line_moved (λ i. dark shifts i j) (is_set line) 11 0 j (λ k lt. ap (λ i. dark shifts i j) (from_zero k) ∙ c.shifted.ensures k j lt))))
    ∙ sym (patterns_are (is_set line) c.args.size (omega arith))
  where
    from_zero : (k : ℕ) → 0 + k ≡ k
    from_zero k = omega arith
