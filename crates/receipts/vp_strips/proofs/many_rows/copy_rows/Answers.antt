use Rattle.std.proofs.Common.{arith}
use Rattle.vp_strips.specs.Jobs.{strip_dot}
use Rattle.vp_strips.proofs.ManyRows.{then_white}
use Rattle.vp_strips.specs.Canvases.{canvas_of}
use Rattle.vp_strips.proofs.many_rows.copy_rows.Goals as goal

pub returns : goal.returns
returns g c =
    let s = c.args.strip in
    then_white s.paper (strip_dot s (canvas_of c.args.canvas.now)) c.args.y c.min-inked.result c.args.rows c.args.room.now c.copy_inked.new.room c.whiten.new.room (omega (arith, c.min-inked.ensures)) c.requires.fits
    (λ x k l m. c.inked.ensures.white (canvas_of c.args.canvas.now) x k (omega (arith, l, m, c.min-inked.ensures, c.saturating_sub.ensures)) m) c.copy_inked.ensures (rw c.row_bytes-bytes.ensures at c.whiten.ensures)
