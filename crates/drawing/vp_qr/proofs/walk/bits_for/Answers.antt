use Rattle.std.proofs.Common.{ℕ, ◌<◌, ap, sym, ◌∙◌, arith}
use Rattle.vp_qr.proofs.PairRows.{two_placed, both_placed, one_placed}
use Rattle.vp_qr.proofs.walk.bits_for.Goals as goal

pub returns-then-free-eq3 : goal.returns-then-free-eq3
returns-then-free-eq3 c = λ (j : ℕ) (h : j < 64). both_placed c.args.word j c.ranges.word.fits ∙ ap (λ n. two_placed n c.args.word j) (sym c.if-free-eq3.true)

pub returns : goal.returns
returns c = grind (arith, one_placed)
