use Rattle.std.proofs.Common.{◌∷◌, [], ap, refl}
use Rattle.vp_zpl.specs.declared.reader.ZplReader.{ZplReader}
use Rattle.vp_zpl.specs.declared.reader.Phase.TheVariants as phases
use Rattle.vp_zpl.specs.declared.item.DataBytes.TheVariants as known
use Rattle.vp_zpl.proofs.Phases.{data_shows}
use Rattle.vp_zpl.proofs.Pictures.{binary_goes}
use Rattle.vp_zpl.proofs.reader.ZplReader.binary.Goals as goal

pub returns : goal.returns
returns c reading before command stands l some =
    let mid : ZplReader = record c.args.self.now { phase = phases.Binary c.saturating_sub.result } in
    data_shows _ mid c.data.new.self (known.One (c.args.byte ∷ [])) before command c.args.byte c.data.ensures.event c.data.ensures.state
    (binary_goes c.args.self.now (record mid { known = known.One (c.args.byte ∷ []) }) before command c.args.left c.args.byte stands l some refl refl refl refl (ap (λ n. phases.Binary n) c.saturating_sub.ensures))
