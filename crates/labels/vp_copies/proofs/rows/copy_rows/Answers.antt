use Rattle.std.proofs.Common.{◌≡◌, ◌+◌, ◌-◌, ◌/◌, sym, ap, ◌∙◌, arith}
use Rattle.vp_dots.specs.Images.{image_row, row_bytes}
use Rattle.vp_copies.proofs.ManyRows.{even_rows, one_more, row_copied, row_fits}
use Rattle.vp_copies.proofs.rows.copy_rows.Goals as goal

pub copy_row-requires : goal.copy_row-requires
copy_row-requires g c = grind arith

pub loop-k-preserved : goal.loop-k-preserved
loop-k-preserved g c = λ i w below painted.
    let y = c.args.y in
    let k = c.loop-k.k in
    let bytes = c.bytes_of_row-bytes.ensures ∙ ap row_bytes (sym w) in
    let fits = row_fits (row_bytes i.width) k c.args.rows c.args.room.now c.loop-k-test.true (rw w c.requires.fits) in
    let band : (y + k) / 32 ≡ y / 32 = (let h = c.requires.inside in omega arith) in
    let text = c.row_of_band.ensures.text i w (omega arith) (rw band painted) in
    let before = c.loop-k.invariant i w below painted in
    rw (bytes, ← w) (row_copied (image_row i) (row_bytes i.width) (even_rows i) y k (i.height - y) c.args.room.now c.loop-k.room c.copy_row.new.room (omega arith)
    (omega (arith, fits, one_more (row_bytes i.width) k)) (rw (← w) at before) (rw (bytes, text) at c.copy_row.ensures))

pub returns : goal.returns
returns g c = grind arith
