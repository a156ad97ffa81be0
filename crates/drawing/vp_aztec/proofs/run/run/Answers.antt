use Rattle.std.proofs.Common.{arith, ◌∙◌, sym}
use Rattle.vp_aztec.specs.Runs.{longest}
use Rattle.vp_aztec.proofs.RunWords.{run_more, run_over, run_past, run_end}
use Rattle.vp_aztec.proofs.run.run.Goals as goal
use Rattle.vp_aztec.proofs.run.run.Goals.{then-k-src-via-then-k-src, then-k-src-via-else-k-src+then-begins_text}

pub returns-then-k-src-clause-run : goal.returns-then-k-src-clause-run
returns-then-k-src-clause-run c =
    elim c.then-k-src.branch [
      | then-k-src-via-then-k-src w ↦ omega (arith, run_past longest c.loop-k.k c.args.src.now (omega arith), c.loop-k.invariant.run)
      | then-k-src-via-else-k-src+then-begins_text w ↦
          omega (arith, run_over longest c.loop-k.k c.args.src.now (sym w.begins_text.ensures ∙ w.if-begins_text.true), c.loop-k.invariant.run)
    ]

pub loop-k-preserved : goal.loop-k-preserved
loop-k-preserved c = record {
  run = omega (arith, run_more longest c.loop-k.k c.args.src.now (omega arith) (omega arith) (sym c.begins_text.ensures ∙ c.if-begins_text.false), c.loop-k.invariant.run);
  within = omega arith;
}

pub returns-clause-run : goal.returns-clause-run
returns-clause-run c = omega (arith, run_end longest c.loop-k.k c.args.src.now (omega arith), c.loop-k.invariant.run)
