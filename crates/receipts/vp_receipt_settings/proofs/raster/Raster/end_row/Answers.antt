use Rattle.std.proofs.Common.{sym, subst}
use Rattle.vp_receipt_settings.specs.Gathering.{IsGathering}
use Rattle.vp_receipt_settings.specs.Rasters.{bytes_after}
use Rattle.vp_receipt_settings.specs.declared.raster.Raster.{Raster}
use Rattle.vp_receipt_settings.proofs.WholeRows.{row_gathered}
use Rattle.vp_receipt_settings.proofs.raster.Raster.end_row.Goals as goal

pub returns-clause-gathers : goal.returns-clause-gathers
returns-clause-gathers c = λ before g.
    subst (λ (r : Raster). IsGathering r (bytes_after c.args.bytes.now before)) (sym c.next_row.ensures)
    (row_gathered c.args.self.now c.keep_all.new.row c.args.bytes.now before c.requires.some c.requires.few c.requires.lacks g)
