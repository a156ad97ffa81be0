use Rattle.std.proofs.Common.{◌∙◌, refl}
use Rattle.vp_zpl.specs.Reader.{Stands}
use Rattle.vp_zpl.specs.Items.{at_rest}
use Rattle.vp_zpl.specs.Commands.{cut}
use Rattle.vp_zpl.proofs.Rests.{rests_is}
use Rattle.vp_zpl.proofs.reader.ZplReader.at_rest.Goals as goal

pub returns : goal.returns
unfolding Stands at_rest
returns c reading bytes stands =
    c.rests.ensures ∙ rests_is c.args.self.now.phase c.args.self.now (cut reading bytes).before (cut reading bytes).open_one stands refl
