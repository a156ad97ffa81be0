use Rattle.std.proofs.lemmas.Bool.Decides.{nat_tests}
use Rattle.std.proofs.Common.{arith}
use Rattle.vp_dots.proofs.Paints.{painted_same}
use Rattle.vp_page.proofs.WordsOnRows.{words_all}
use Rattle.vp_page.proofs.words.or_words.Goals as goal

pub loop-k-init : goal.loop-k-init
loop-k-init c = grind (arith, nat_tests)

pub loop-k-preserved : goal.loop-k-preserved
loop-k-preserved c = grind (arith, nat_tests)

pub returns : goal.returns
returns c = painted_same _ _ _ _ _ (λ d l. words_all c.args.line.now c.args.q c.loop-k.k d (omega (arith, c.requires.whole))) c.loop-k.invariant
