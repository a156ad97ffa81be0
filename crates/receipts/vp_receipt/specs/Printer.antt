-- What a receipt printer keeps.
use Rattle.vp_receipt.specs.declared.receipt.Receipt.TheInside.{Inside}
use Rattle.vp_receipt_settings.specs.Settings.{IsFit}
use Rattle.vp_strips.specs.Canvases.{canvas_of}
use Rattle.vp_strips.specs.Held.{job_text, showing_of, IsJob, IsTurned}
use Rattle.vp_receipt.specs.Standing.{Printing}
use Rattle.vp_receipt_settings.specs.Gathering.{IsPartRow}

abbrev pub printing_of : {A : _} → Inside A → Printing
printing_of r = record {
  sheets = r.canvas.sheets;
  settings = r.settings;
  stops = r.kept.stops.items;
  raster = r.kept.raster;
  stored = r.kept.stored;
  bitmap = r.canvas.bitmap;
  page = r.canvas.page;
  waiting = r.waiting;
  pending = job_text r.job (canvas_of r.canvas);
  showing = showing_of r.job (canvas_of r.canvas);
  of_page = r.of_page;
}

pub record IsPrinter {A : Type 0} (r : Inside A) : Type 0 where
  pub fit : IsFit r.settings
  pub raster : IsPartRow r.kept.raster
  pub job : IsJob r.job (canvas_of r.canvas) r.lines
  pub turned : IsTurned r.job.place r.job.after
