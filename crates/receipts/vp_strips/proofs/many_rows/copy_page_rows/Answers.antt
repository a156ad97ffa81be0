use Rattle.std.proofs.Common.{◌+◌, length, ap, ◌∙◌, arith, length-drop}
use Rattle.std.proofs.lemmas.List.{length-take}
use Rattle.vp_strips.specs.Jobs.{page_dot_of}
use Rattle.vp_strips.proofs.ManyRows.{length-row, row_copied, row_fits, rows_copied}
use Rattle.vp_strips.proofs.many_rows.copy_page_rows.Goals as goal

pub copy_row-requires : goal.copy_row-requires
copy_row-requires g c =
    let page = page_dot_of c.args.page.now.rows in
    let long = ap length c.page_row.ensures ∙ length-row c.args.paper page (c.args.y + c.loop-k.k) in
    let fits = row_fits c.args.paper page c.loop-k.k c.args.rows c.row_bytes-bytes.result c.args.room.now c.row_bytes-bytes.ensures c.loop-k-test.true c.requires.fits in
    simp (length-take, length-drop) (omega (arith, long, fits, c.loop-k.auto.room))

pub loop-k-preserved : goal.loop-k-preserved
loop-k-preserved g c = grind (arith, row_copied)

pub returns : goal.returns
returns g c = grind (arith, rows_copied)
