use Rattle.std.proofs.lemmas.Bool.Decides.{nat_tests}
use Rattle.std.proofs.Common.{arith}
use Rattle.std.proofs.lemmas.Bool.{le-ltb}
use Rattle.vp_dots.proofs.Heights.{rows_same}
use Rattle.vp_strips.proofs.Magnified.{line_on, past_lines}
use Rattle.vp_strips.proofs.OwnRows.{own_over, own_same, painted_each}
use Rattle.vp_strips.proofs.paint.paint_lines.Goals as goal

pub returns-then-times-eq1 : goal.returns-then-times-eq1
returns-then-times-eq1 g c = painted_each c.args.same.now _ _ _ (c.requires.once c.if-times-eq1.true) (rows_same _ _ _ _ _ _ (λ x k h. grind arith) c.paint_words.ensures)

pub loop-v-preserved : goal.loop-v-preserved
loop-v-preserved g c = own_over c.args.same.now _ _ _ _ _ _ (λ x k. grind (arith, nat_tests, line_on)) c.loop-v.invariant c.paint_alike.ensures

pub returns : goal.returns
returns g c = own_same c.args.same.now _ _ _ _ (λ x k h. grind (arith, nat_tests, past_lines, le-ltb)) c.loop-v.invariant
