use Rattle.std.proofs.Common.{◌≡◌, ◌+◌, arith}
use Rattle.vp_dots.specs.Dots.{dot}
use Rattle.vp_page.proofs.Pages.{rows_make_an_image}
use Rattle.vp_receipt.specs.PageMarks.{mark_of}
use Rattle.vp_receipt.proofs.PageLines.{length_small}
use Rattle.vp_receipt.proofs.raster_page.lay_times.Goals as goal

pub loop-y-preserved : goal.loop-y-preserved
loop-y-preserved g c = λ dots layers same page.
    let p = c.args.p in
    let y = c.loop-y.y in
    let long = length_small p.area p.direction c.requires.fit.across c.requires.fit.down in
    let below : p.vertical + c.args.at + y ≡ p.vertical + (c.args.at + y) = omega arith in
    let next : c.args.at + (y + 1) ≡ c.args.at + y + 1 = omega arith in
    rw next (rows_make_an_image.more (mark_of p 0 dots) (c.args.at + y) (dot c.args.row.now) layers c.lay_row.new.self (λ u h. same u y (omega arith) (omega arith))
    (rw below at (c.lay_row.ensures _ (c.loop-y.invariant dots layers same page))))

pub returns : goal.returns
returns g c = λ dots layers same page.
    let all : c.loop-y.y ≡ c.args.times = omega arith in rw all at (c.loop-y.invariant dots layers same page)

pub loop-y-init : goal.loop-y-init
loop-y-init g c = grind arith
