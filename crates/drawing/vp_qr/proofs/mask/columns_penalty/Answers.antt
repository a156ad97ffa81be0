use Rattle.std.proofs.Common.{sym}
use Rattle.vp_qr.specs.Penalty.{line_from, runs_penalty, runs, patterns_penalty}
use Rattle.vp_qr.specs.Walk.{dark}
use Rattle.vp_qr.proofs.Counting.{sum_plus}
use Rattle.vp_qr.proofs.mask.columns_penalty.Goals as goal

pub returns-clause-penalty : goal.returns-clause-penalty
returns-clause-penalty c =
    rw (c.columns_runs.ensures.penalty, c.columns_patterns.ensures.penalty)
    (sym (sum_plus c.args.size (λ j. runs_penalty (runs (line_from (λ i. dark c.args.rows.now i j) 0 c.args.size))) (λ j. patterns_penalty (line_from (λ i. dark c.args.rows.now i j) 0 c.args.size))))
