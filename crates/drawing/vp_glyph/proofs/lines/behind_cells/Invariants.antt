use Rattle.vp_glyph.specs.Blocks.{pieces}
use Rattle.vp_glyph.proofs.Pieces.{Behind}
use Rattle.vp_glyph.proofs.lines.behind_cells.Given as goal

abbrev pub invariant-loop-i : goal.invariant-loop-i
invariant-loop-i l = Behind l._i (pieces l.text) (pieces l.at)
