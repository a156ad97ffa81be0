use Rattle.vp_glyph.proofs.Breaking.{lines_few, lines_whole}
use Rattle.vp_glyph.proofs.lines.lines_law.Goals as goal

pub returns-clause-few : goal.returns-clause-few
returns-clause-few c = lines_few

pub returns-clause-whole : goal.returns-clause-whole
returns-clause-whole c = lines_whole
