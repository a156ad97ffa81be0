use Rattle.std.proofs.Common.{arith, ◌∙◌}
use Rattle.std.proofs.lemmas.List.{length-set}
use Rattle.vp_glyph.proofs.Passed.{passed_one, passed_more}
use Rattle.vp_glyph.proofs.runs.pass_down.Goals as goal

pub loop-k-init : goal.loop-k-init
loop-k-init g c = record { count = c.told-rows; passed = passed_one g.row.B _ }

pub loop-k-preserved : goal.loop-k-preserved
loop-k-preserved g c = record {
  count = length-set c.loop-k.rows c.loop-k.k _ ∙ c.loop-k.invariant.count;
  passed = passed_more g.row.B c.loop-k.k _ c.loop-k.rows _ (omega (arith, c.loop-k.invariant.count)) c.blacken.ensures c.loop-k.invariant.passed;
}

pub returns : goal.returns
returns g c = λ k x l h. c.loop-k.invariant.passed.done k x (omega arith) h
