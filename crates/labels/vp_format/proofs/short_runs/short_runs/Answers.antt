use Rattle.std.proofs.Common.{refl, arith}
use Rattle.vp_format.proofs.Reached.{reached_at}
use Rattle.vp_format.proofs.Quick.{run_taken, reads_on}
use Rattle.vp_format.proofs.short_runs.short_runs.Goals as goal

pub loop-at-preserved : goal.loop-at-preserved
loop-at-preserved c =
    let l = c.loop-at in let run = c.run_at-run in
    reads_on _ _ _ _ _ _ _ _ _ _ _ l.invariant (record {
      len = c.fill_short.ensures.len;
      after = omega arith;
      place = omega arith;
      behind = omega arith;
      inside = omega arith;
      reached = λ all start r.
          run_taken c.args.width all start l.places c.fill_short.new.places l.x run.result.places run.result.digit _ _ l.at run.result.behind (omega arith) (omega arith) (omega arith) (omega arith) refl c.fill_short.ensures.filled
          (reached_at c.args.width all start l.places l.x l.x _ _ l.at l.at refl (run.ensures.symbol (omega arith)) refl r);
    })

pub loop-at-preserved-then-at-single : goal.loop-at-preserved-then-at-single
loop-at-preserved-then-at-single c = reads_on _ _ _ _ _ _ _ _ _ _ _ c.loop-at.invariant c.put_counted.ensures
