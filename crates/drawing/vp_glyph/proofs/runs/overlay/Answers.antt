use Rattle.std.proofs.Common.{arith, ◌-◌, ◌||◌, [], get_or}
use Rattle.std.proofs.lemmas.List.{length-set}
use Rattle.vp_dots.specs.Dots.{dot}
use Rattle.vp_glyph.proofs.Passed.{blacker_none, blacker_more}
use Rattle.vp_glyph.proofs.runs.overlay.Goals as goal

pub loop-k-init : goal.loop-k-init
loop-k-init g c = record { count = c.told-rows; blacker = blacker_none g.row.B (λ k x. dot (get_or c.args.down.now k []) x || dot (get_or c.args.up.now (g.row.N - 1 - k) []) x) 0 _ }

pub loop-k-preserved : goal.loop-k-preserved
loop-k-preserved g c = grind (arith, length-set, blacker_more, c.loop-k.invariant.count)

pub returns : goal.returns
returns g c = λ k x l h. c.loop-k.invariant.blacker.inside k x (omega arith) (omega arith) h
