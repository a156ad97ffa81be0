use Rattle.vp_receipt_settings.proofs.Runs.{gathers_run}
use Rattle.vp_receipt_settings.proofs.raster.Raster.take_all.Goals as goal

pub returns-clause-gathers : goal.returns-clause-gathers
returns-clause-gathers c = λ before g. gathers_run c.args.self.now c.keep_all.new.row c.args.bytes.now before c.requires.few g c.keep_all.ensures
