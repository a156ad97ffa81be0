use Rattle.std.proofs.lemmas.Bool.Decides.{nat_tests}
use Rattle.std.proofs.Common.{◌+◌, arith}
use Rattle.std.proofs.lemmas.Bool.{le-ltb}
use Rattle.vp_page.proofs.PageRows.{ended}
use Rattle.vp_page.proofs.Squares.{white_word}
use Rattle.vp_page.proofs.along.word_left.Goals as goal

pub returns-then-end-at-2 : goal.returns-then-end-at-2
returns-then-end-at-2 c = λ x h. grind (arith, nat_tests, ended)

pub returns : goal.returns
returns c = λ x h. rw (le-ltb (c.args.at + x) c.args.end (omega arith)) (white_word x)
