use Rattle.std.proofs.Common.{◌≡◌, ◌+◌, ◌∷◌, ap, subst, refl, ◌∙◌, arith}
use Rattle.vp_page.proofs.Pages.{rows_make_an_image}
use Rattle.vp_page.specs.Layers.{Laid, first_rows}
use Rattle.vp_page.specs.Pages.{HasPage}
use Rattle.vp_receipt_settings.specs.Rasters.{times_down}
use Rattle.vp_receipt.specs.PageMarks.{mark_of}
use Rattle.vp_receipt.proofs.RasterRows.{laid_row}
use Rattle.vp_receipt.proofs.raster_page.lay_raster_row.Goals as goal

pub returns : goal.returns
returns g c = λ setup before came layers e scale kept page.
    laid_row setup before c.args.s.now c.args.raster.now.scale came c.kept.result.now layers c.lay_scaled.new.page e scale (c.kept.ensures.bytes ∙ kept)
    (λ dots same high. let m = mark_of c.args.s.now.page (times_down c.args.raster.now.scale) dots in
    let d = times_down c.args.raster.now.scale in
    rows_make_an_image.all m d layers _ (λ u w t k. high u w t) refl
    (subst (λ n. HasPage (Laid (first_rows n m) ∷ layers) c.lay_scaled.new.page) (let e : 0 + d ≡ d = omega arith in e)
    (c.lay_scaled.ensures dots layers (λ u w h l. same u w h l ∙ ap (dots u) (let e : w ≡ 0 + w = omega arith in e)) (rows_make_an_image.none m layers _ page))))
