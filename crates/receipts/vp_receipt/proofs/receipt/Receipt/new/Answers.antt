use Rattle.std.proofs.Common.{refl}
use Rattle.vp_receipt.proofs.receipt.Receipt.new.Goals as goal

pub invariant_of-result : goal.invariant_of-result
invariant_of-result g c = record { fit = c.start.ensures.fit; raster = c.none.ensures.part; job = c.none-4.ensures.job _ _; turned = c.none-4.ensures.turned }

pub returns-clause-stands : goal.returns-clause-stands
returns-clause-stands g c = record {
  sheets = refl;
  settings = c.start.ensures.settings (record { width = c.args.width; sheets = c.args.sheets }) refl;
  stops = c.first_stops.ensures;
  raster = c.none.ensures.gathers;
  stored = c.none-2.ensures;
  line = λ h. cc;
  page = tt;
  shows = c.none-4.ensures.shows _ 0 0;
  of_page = λ some. refl;
}
