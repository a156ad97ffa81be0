use Rattle.vp_receipt_settings.proofs.WholeRows.{rows_pass}
use Rattle.vp_receipt_settings.proofs.raster.Raster.pass.Goals as goal

pub returns-clause-gathers : goal.returns-clause-gathers
returns-clause-gathers c = λ bytes before g long. rows_pass c.args.self.now c.args.rows bytes before c.requires.part c.requires.begins c.requires.few g long
