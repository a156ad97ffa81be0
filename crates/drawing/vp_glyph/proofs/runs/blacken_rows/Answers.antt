use Rattle.std.proofs.Common.{arith}
use Rattle.std.proofs.lemmas.List.{length-set}
use Rattle.vp_dots.specs.Dots.{dot}
use Rattle.vp_glyph.proofs.Passed.{blacker_none, blacker_more, blacker_span}
use Rattle.vp_glyph.proofs.runs.blacken_rows.Goals as goal

pub loop-k-init : goal.loop-k-init
loop-k-init g c = record { count = c.told-rows; after = omega arith; blacker = blacker_none g.row.B (λ k x. dot c.args.ink.now x) _ _ }

pub loop-k-preserved : goal.loop-k-preserved
loop-k-preserved g c = grind (arith, length-set, blacker_more, c.loop-k.invariant.after)

pub returns : goal.returns
returns g c = λ k x l h. blacker_span g.row.B (λ k x. dot c.args.ink.now x) c.args.from c.args.to c.loop-k.k _ _ (omega arith) c.loop-k.invariant.blacker k x h
