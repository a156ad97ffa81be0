use Rattle.std.proofs.Common.{◌≡◌, ◌-◌, ◌*◌, sym, arith}
use Rattle.vp_qr.specs.Penalty.{sum_below, line_from, patterns_penalty}
use Rattle.vp_qr.specs.Walk.{dark}
use Rattle.vp_qr.proofs.Counting.{sum_more, sum_same, sum_set, sum_swap, sum_forty}
use Rattle.vp_qr.proofs.Patterns.{found, pattern_at, patterns_are}
use Rattle.vp_qr.proofs.mask.columns_patterns.Goals as goal

pub loop-at-preserved : goal.loop-at-preserved
loop-at-preserved c = (
  rw (c.loop-at.invariant.0, c.ones-found.ensures.value, sum_set c.patterns.result c.args.size (λ j. found (line_from (λ i. dark c.args.rows.now i j) c.loop-at.at 11)) (λ j h. c.patterns.ensures j (omega arith)))
      (sym (sum_more c.loop-at.at (λ p. sum_below c.args.size (λ j. pattern_at (λ i. dark c.args.rows.now i j) p)))),
  omega (arith, c.loop-at.invariant.1, c.ones-found.ensures.most),
)

pub returns-clause-penalty : goal.returns-clause-penalty
returns-clause-penalty c =
    let end : c.loop-at.at ≡ c.args.size - 10 = omega (arith, c.loop-at-test.false, c.loop-at.auto.at-end) in
    rw (
      c.loop-at.invariant.0,
      end,
      sum_swap (c.args.size - 10) c.args.size (λ p j. pattern_at (λ i. dark c.args.rows.now i j) p),
      ← sum_forty c.args.size (λ j. sum_below (c.args.size - 10) (pattern_at (λ i. dark c.args.rows.now i j))),
    )
    (sum_same c.args.size (λ j. 40 * sum_below (c.args.size - 10) (pattern_at (λ i. dark c.args.rows.now i j))) (λ j. patterns_penalty (line_from (λ i. dark c.args.rows.now i j) 0 c.args.size))
    (λ j _. sym (patterns_are (λ i. dark c.args.rows.now i j) c.args.size (omega arith))))
