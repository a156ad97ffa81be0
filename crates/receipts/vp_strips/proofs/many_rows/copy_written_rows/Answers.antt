use Rattle.std.proofs.Common.{◌+◌, arith}
use Rattle.vp_page.specs.declared.page.TheConstants.{PAPER_BYTES}
use Rattle.vp_strips.specs.Jobs.{dot_in}
use Rattle.vp_strips.proofs.Rows.{row_of_same, take_row}
use Rattle.vp_strips.proofs.ManyRows.{row_copied, rows_copied}
use Rattle.vp_strips.specs.Canvases.{canvas_of}
use Rattle.vp_strips.proofs.many_rows.copy_written_rows.Goals as goal

pub loop-j-preserved : goal.loop-j-preserved
loop-j-preserved g c =
    let same = row_of_same PAPER_BYTES (λ x. dot_in c.args.dots (canvas_of c.args.canvas.now) x (c.args.y + c.loop-k.k)) (λ x. dot_in c.args.dots (canvas_of c.args.canvas.now) x (c.args.y + c.loop-j.j)) in
    grind (arith, same, take_row, row_copied)

pub returns : goal.returns
returns g c = grind (arith, rows_copied)
