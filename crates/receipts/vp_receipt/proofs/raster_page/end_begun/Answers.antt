use Rattle.std.proofs.Common.{◌≡◌, ◌+◌, ◌++◌, length, take, sym, ap, subst, ◌∙◌, arith}
use Rattle.std.proofs.lemmas.List.{take_all, length-take-le}
use Rattle.vp_receipt_settings.specs.Rasters.{times_down, row_so_far, bytes_after}
use Rattle.vp_receipt_settings.specs.declared.raster.Raster.{Raster}
use Rattle.vp_receipt_settings.specs.Runs.{below}
use Rattle.vp_receipt.specs.PageMarks.{layers}
use Rattle.vp_receipt.specs.Standing.{IsOnPage}
use Rattle.vp_receipt_settings.proofs.WholeRows.{Lacks}
use Rattle.vp_receipt.proofs.PageRows.{inside_on_page, row_on_page, row_whole}
use Rattle.vp_receipt.proofs.raster_page.end_begun.Goals as goal

pub returns-then-bytes-room-clause-on_page : goal.returns-then-bytes-room-clause-on_page
returns-then-bytes-room-clause-on_page g c = λ setup before h.
    let bytes = c.args.bytes.now in
    subst (λ xs. IsOnPage setup (bytes_after xs before) c.args.s.now c.take_all.new.self c.args.page.now) (sym (take_all (length bytes) bytes (omega arith)))
    (inside_on_page setup before c.args.s.now c.args.raster.now c.take_all.new.self bytes c.args.page.now (omega (arith, c.if-bytes-room.true, c.from-room.ensures, c.room.ensures)) h
    (c.take_all.ensures.gathers before h.raster))

pub returns-clause-on_page : goal.returns-clause-on_page
returns-clause-on_page g c = λ setup before h.
    let r = c.args.raster.now in
    let bytes = take (c.from-room.result + 1) c.args.bytes.now in
    let long : length bytes ≡ c.from-room.result + 1 = length-take-le (c.from-room.result + 1) c.args.bytes.now (omega (arith, c.if-bytes-room.false)) in
    let scale : c.end_row.new.self.scale ≡ r.scale = ap (λ (k : Raster). k.scale) c.end_row.ensures.value in
    let part : Lacks bytes before = record {
      rows = grind (arith, h.raster.rows, c.requires.part.none, c.if-raster-eq0.false);
      some = omega (arith, long);
      all = omega (arith, long, h.raster.got, h.raster.bytes, c.room.ensures, c.from-room.ensures, row_whole r c.requires.part c.if-raster-eq0.false);
    } in
    row_on_page setup before c.args.s.now c.after_row.result r c.end_row.new.self bytes c.args.page.now c.lay_raster_row.new.page part h
    (c.after_row.ensures.value ∙ ap (below c.args.s.now) (c.times_down.ensures.value ∙ ap times_down scale)) (c.end_row.ensures.gathers before h.raster)
    (c.lay_raster_row.ensures setup before (row_so_far before ++ bytes) (layers setup before) h.settings (scale ∙ h.raster.scale) (c.end_row.ensures.row before h.raster) h.page)
