use Rattle.vp_join.proofs.reading.Reading.take_head.Goals as goal

pub returns-in-InHeight-clause-counted : goal.returns-in-InHeight-clause-counted
returns-in-InHeight-clause-counted c = λ m h. c.take_in_height.ensures.counted m c.requires.head h
