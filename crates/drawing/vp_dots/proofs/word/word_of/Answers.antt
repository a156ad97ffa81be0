use Rattle.vp_dots.proofs.Cuts.{word_of_bytes}
use Rattle.vp_dots.proofs.word.word_of.Goals as goal

pub returns : goal.returns
returns c x = word_of_bytes c.args.bytes.now _ x c.told-bytes c.fits-bytes c.from_be_bytes.ensures
