use Rattle.std.proofs.Common.{arith}
use Rattle.std.proofs.lemmas.Grind.{common_steps}
use Rattle.vp_glyph.specs.Reading.{sheet_of}
use Rattle.vp_glyph.proofs.sheet.raster_of.Goals as goal

pub returns-then-header-w : goal.returns-then-header-w
unfolding sheet_of
returns-then-header-w c = grind (arith, common_steps)

pub returns-then-header-size : goal.returns-then-header-size
unfolding sheet_of
returns-then-header-size c = grind (arith, common_steps)

pub returns : goal.returns
unfolding sheet_of
returns c = grind (arith, common_steps)
