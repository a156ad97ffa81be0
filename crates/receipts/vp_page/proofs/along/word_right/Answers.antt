use Rattle.std.proofs.Common.{◌+◌, arith}
use Rattle.std.proofs.lemmas.Bool.{lt-leb}
use Rattle.vp_page.proofs.PageRows.{begun}
use Rattle.vp_page.proofs.Squares.{white_word}
use Rattle.vp_page.proofs.along.word_right.Goals as goal

pub returns-then-far-at-lt64 : goal.returns-then-far-at-lt64
returns-then-far-at-lt64 c = λ x h. begun c.args.line.now c.eight_at.result c.args.far c.args.at x (omega arith) c.if-at-far.false h c.eight_at.ensures

pub returns : goal.returns
returns c = λ x h. rw (lt-leb c.args.far (c.args.at + x) (omega arith)) (white_word x)
