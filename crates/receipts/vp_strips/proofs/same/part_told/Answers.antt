use Rattle.vp_strips.proofs.SameRows.{own_shown}
use Rattle.vp_strips.proofs.same.part_told.Goals as goal

pub returns-else-told-clause-shows : goal.returns-else-told-clause-shows
returns-else-told-clause-shows g c = λ x y h l. own_shown c.args.used c.args.same.now c.args.band.now c.requires.clear x y h l (λ _. c.requires.none c.if-told.false y)
