use Rattle.vp_page.proofs.Kept.{kept_bytes}
use Rattle.vp_page.proofs.whiten.keep_eight.Goals as goal

pub returns : goal.returns
returns c = kept_bytes c.args.kept.now c.args.row.now c.args.i 8 c.requires.kept c.requires.row
