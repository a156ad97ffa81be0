use Rattle.std.proofs.Common.{arith, ◌+◌}
use Rattle.std.proofs.lemmas.List.{length-take-le}
use Rattle.vp_join.specs.Standing.{IsCounted}
use Rattle.vp_join.proofs.Ends.{stands_then, stands_head}
use Rattle.vp_join.proofs.reading.Reading.take.Goals as goal

pub returns-in-InRows-clause-stands : goal.returns-in-InRows-clause-stands
returns-in-InRows-clause-stands c = grind (arith, stands_then c.args.self.now c.take_rows.new.self, length-take-le (c.min-n.result + 1) c.args.bytes.now)

pub returns-in-InRows-clause-counted : goal.returns-in-InRows-clause-counted
returns-in-InRows-clause-counted c = λ m h. rw (length-take-le (c.min-n.result + 1) c.args.bytes.now (omega (arith, c.min-n.ensures))) (c.take_rows.ensures.counted m h)

pub returns-clause-stands : goal.returns-clause-stands
returns-clause-stands c = λ b r h. stands_head c.args.self.now c.take_head.new.self b r c.args.bytes.now c.requires.some h (λ text. c.take_head.ensures.next r text)

pub returns-clause-counted : goal.returns-clause-counted
returns-clause-counted c = λ m h. let k : IsCounted c.take_head.new.self m = c.take_head.ensures.counted m h in record { count = omega (arith, k.count); none = k.none }
