use Rattle.std.proofs.Common.{[], ap, sym, subst, refl}
use Rattle.vp_receipt_settings.specs.declared.settings.Settings.{Settings}
use Rattle.vp_receipt.specs.Printer.{printing_of}
use Rattle.vp_receipt.specs.Standing.{Printing, Stands}
use Rattle.vp_receipt.proofs.receipt.Receipt.begin_anew.Goals as goal

pub invariant_of-self : goal.invariant_of-self
invariant_of-self g c = record { fit = c.start-self-inside.ensures.fit; raster = c.take.ensures.part; job = c.none-self-inside.ensures.job _ _; turned = c.none-self-inside.ensures.turned }

pub returns-clause-stands : goal.returns-clause-stands
returns-clause-stands g c = λ setup before h.
    let was : Stands setup (printing_of c.self.inside) before = subst (λ (p : Printing). Stands setup p before) (sym c.self.view_is) h in
    let ended = c.take.ensures.gathers before in
    record {
      sheets = was.sheets;
      settings = c.start-self-inside.ensures.settings setup (sym (ap (λ (s : Settings). s.paper) was.settings));
      stops = c.take.ensures.stops before (ap (λ (s : Settings). s.text) was.settings) was.stops;
      raster = record { scale = ended.scale; bytes = ended.bytes; rows = ended.rows; got = ended.got; row = ended.row };
      stored = c.take.ensures.stored before was.stored;
      line = λ h. cc;
      page = tt;
      shows = c.none-self-inside.ensures.shows _ 0 0;
      of_page = λ some. refl;
    }

pub returns-clause-page : goal.returns-clause-page
returns-clause-page g c = c.count_anew.ensures [] c.clear.ensures
