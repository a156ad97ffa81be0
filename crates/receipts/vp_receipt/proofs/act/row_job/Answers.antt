use Rattle.std.proofs.Common.{◌≡◌, ◌*◌, ap, ◌∙◌, take, min}
use Rattle.vp_esc.specs.declared.item.RasterScale.{RasterScale}
use Rattle.vp_strips.specs.declared.strip.Strip.{Strip}
use Rattle.vp_receipt_settings.specs.declared.settings.Settings.{Settings}
use Rattle.vp_receipt_settings.specs.Line.{standard_length}
use Rattle.vp_receipt_settings.specs.Settings.{printed_at}
use Rattle.vp_receipt_settings.specs.Rasters.{times_across, times_down, raster_bytes}
use Rattle.vp_strips.specs.Rows.{rows_text, raster_dot}
use Rattle.vp_strips.specs.Jobs.{strip_dot}
use Rattle.vp_receipt.proofs.RasterRows.{rows_shown}
use Rattle.vp_page.specs.declared.line.TheConstants.{LINE_BYTES}
use Rattle.vp_receipt.proofs.act.row_job.Goals as goal

pub returns-clause-text : goal.returns-clause-text
returns-clause-text c = λ setup before canvas came e scale bytes row r.
    let r0 = c.args.raster.now in
    let times = times_across r0.scale in
    let wide : 8 * c.from.result * c.times_across.result ≡ 8 * raster_bytes before * times = ap (λ b. 8 * b * c.times_across.result) (c.from.ensures ∙ bytes) ∙ ap (λ t. 8 * raster_bytes before * t) c.times_across.ensures.value in
    c.of_rows.ensures.text canvas ∙ ap (λ (s : Strip). rows_text s.paper (strip_dot s canvas) 0 s.rows) c.raster_rows.ensures
    ∙ rows_shown setup before c.args.s.now (take (min r0.bytes LINE_BYTES) r0.row) came canvas.raster_row c.printed_at.result c.paper_length.result times (raster_bytes before) c.times_down.result e
    (c.printed_at.ensures setup before e ∙ ap (printed_at setup before) wide)
    (c.paper_length.ensures.value ∙ ap (λ (q : Settings). standard_length q.paper q.left_margin q.area_width) e)
    row (r ∙ c.write_raster_row.ensures)
    ∙ ap (λ n. rows_text setup.width (λ x y. raster_dot setup before times (raster_bytes before) came x) 0 n) c.times_down.ensures.value
    ∙ ap (λ (k : RasterScale). rows_text setup.width (λ x y. raster_dot setup before (times_across k) (raster_bytes before) came x) 0 (times_down k)) scale
