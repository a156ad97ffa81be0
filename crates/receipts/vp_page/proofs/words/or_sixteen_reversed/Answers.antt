use Rattle.vp_page.proofs.WordsOnRows.{turned_painted}
use Rattle.vp_page.proofs.words.or_sixteen_reversed.Goals as goal

pub returns : goal.returns
returns c = turned_painted c.args.line.now _ c.args.j c.args.i c.args.row.now c.requires.line c.requires.row c.sixteen_reversed.ensures.len c.sixteen_reversed.ensures.turned
