use Rattle.std.proofs.Common.{arith, ◌∙◌}
use Rattle.vp_esc.proofs.Stops.{stops_more, stops_full, stops_end}
use Rattle.vp_esc.proofs.Kept.{advances_giving}
use Rattle.vp_esc.proofs.reader.EscReader.stop.Goals as goal

pub returns-then-byte-last : goal.returns-then-byte-last
returns-then-byte-last c rest hand =
    advances_giving _ _
    (stops_end c.args.self.now c.args.last c.args.byte rest c.first_stops.result hand c.if-byte-last.true
    (λ few. c.first_stops.ensures (rw c.as_slice.ensures.value few) ∙ c.as_slice.ensures.value))

pub returns-then-len-lt32 : goal.returns-then-len-lt32
returns-then-len-lt32 c rest hand = stops_more c.args.self.now c.args.last c.args.byte rest _ hand c.if-byte-last.false c.keep.ensures (omega (arith, c.len.ensures))

pub returns : goal.returns
returns c rest hand =
    advances_giving _ _
    (stops_full c.args.self.now c.args.last c.args.byte rest c.keep.new.kept c.first_stops-2.result hand c.if-byte-last.false c.keep.ensures (omega (arith, c.len.ensures))
    (λ few. c.first_stops-2.ensures (rw c.as_slice-2.ensures.value few) ∙ c.as_slice-2.ensures.value))
