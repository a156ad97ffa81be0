use Rattle.std.proofs.Common.{◌*◌, min, List, ◌∷◌}
use Rattle.vp_page.specs.Layers.{Layer, Laid, first_rows}
use Rattle.vp_page.specs.Pages.{HasPage}
use Rattle.vp_receipt_settings.specs.Rasters.{times_down}
use Rattle.vp_receipt.specs.PageMarks.{mark_of, rows_dot}
use Rattle.vp_dots.specs.declared.square.TheConstants.{SIDE}
use Rattle.vp_receipt.proofs.raster_page.lay_many.Given as goal

-- the lines above these are laid
abbrev pub invariant-loop-k : goal.invariant-loop-k
invariant-loop-k g l =
    let high = l.fn.rows * times_down l.fn.raster.scale in
    let m = mark_of l.fn.p high (rows_dot l.fn.raster.scale l.fn.raster.bytes l.fn.rows l.fn.bytes) in
    (layers : List Layer) → HasPage layers l.fn.page → HasPage (Laid (first_rows (min (SIDE * l.k) high) m) ∷ layers) l.page
