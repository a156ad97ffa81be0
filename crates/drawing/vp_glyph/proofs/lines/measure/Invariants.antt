use Rattle.vp_glyph.specs.Blocks.{pieces}
use Rattle.vp_glyph.proofs.Pieces.{Scanned}
use Rattle.vp_glyph.proofs.lines.measure.Given as goal

abbrev pub invariant-loop-i : goal.invariant-loop-i
invariant-loop-i l = Scanned l.i (pieces l.text) (pieces l.at) l.blank
