use Rattle.std.proofs.Common.{arith}
use Rattle.std.proofs.lemmas.Int.{ints}
use Rattle.vp_dots.proofs.Cuts.{cut_end}
use Rattle.vp_dots.proofs.word.word_at_end.Goals as goal

pub returns : goal.returns
returns c x h = cut_end c.args.row.now c.or_into.new.row c.word_of.result c.args.from x _ (omega (arith, ints)) c.or_into.ensures (c.word_of.ensures x) h
