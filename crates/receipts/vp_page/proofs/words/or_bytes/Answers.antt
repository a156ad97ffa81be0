use Rattle.vp_page.proofs.WordsOnRows.{bytes_painted}
use Rattle.vp_page.proofs.words.or_bytes.Goals as goal

pub returns : goal.returns
returns c = bytes_painted c.args.line.now c.args.j c.args.i c.args.row.now c.requires.line c.requires.row
