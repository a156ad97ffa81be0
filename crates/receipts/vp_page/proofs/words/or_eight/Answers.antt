use Rattle.std.proofs.Common.{◌-◌, ◌*◌, ◌&&◌, leb, ap}
use Rattle.vp_dots.proofs.Paints.{painted_same}
use Rattle.vp_page.proofs.WordsOnRows.{word_bytes}
use Rattle.vp_page.proofs.words.or_eight.Goals as goal

pub returns : goal.returns
returns c = painted_same _ _ _ _ _ (λ d l. ap (λ b. leb (8 * c.args.i) d && b) (word_bytes c.args.word (d - 8 * c.args.i) c.to_be_bytes.result c.to_be_bytes.ensures)) c.or_bytes.ensures
