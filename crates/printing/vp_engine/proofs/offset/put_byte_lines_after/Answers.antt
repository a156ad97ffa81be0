use Rattle.std.proofs.Common.{arith}
use Rattle.std.proofs.lemmas.List.{length-take-le, length-append, length-drop}
use Rattle.std.proofs.Math.Seq.{take-add}
use Rattle.vp_engine.proofs.OffsetLines.{leading_short, written_behind, short_behind, lines_at, lines_more}
use Rattle.vp_engine.proofs.offset.put_byte_lines_after.Goals as goal

pub of-leading-requires : goal.of-leading-requires
of-leading-requires c = leading_short c.args.taken c.ranges.taken.fits

pub go_to-requires : goal.go_to-requires
go_to-requires c = leading_short c.saturating_add-offset.result (omega arith)

pub loop-at-preserved : goal.loop-at-preserved
loop-at-preserved c = grind (arith, length-take-le, length-drop, lines_at, take-add, lines_more, short_behind, leading_short, length-append, written_behind)
