use Rattle.vp_page.proofs.WordsOnRows.{sixteen_painted}
use Rattle.vp_page.proofs.words.or_sixteen.Goals as goal

pub returns : goal.returns
returns c = sixteen_painted c.args.bytes.now c.args.i c.args.row.now c.requires.bytes c.requires.row
