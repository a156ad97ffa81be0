use Rattle.std.proofs.Common.{◌≡◌, ◌/◌, ap, sym, ◌∙◌, arith}
use Rattle.vp_dots.specs.Dots.{dot}
use Rattle.vp_receipt_settings.specs.Rasters.{times_across}
use Rattle.vp_receipt.proofs.raster_page.lay_scaled.Goals as goal

pub returns-then-times_across-eq1 : goal.returns-then-times_across-eq1
returns-then-times_across-eq1 g c = λ dots layers same page.
    let one : times_across c.args.scale ≡ 1 = sym c.times_across.ensures.value ∙ c.if-times_across-eq1.true in
    rw c.times_down-times.ensures.value at (c.lay_times.ensures dots layers
    (λ u w h l. (let q : u ≡ u / 1 = omega arith in ap (dot c.args.row.now) q) ∙ rw one at (same u w h (rw c.times_down-times.ensures.value at l))) page)

pub returns-else-times_across-eq1 : goal.returns-else-times_across-eq1
returns-else-times_across-eq1 g c = λ dots layers same page.
    let two : times_across c.args.scale ≡ 2 = sym c.times_across.ensures.value ∙ omega (arith, c.times_across.ensures.some, c.times_across.ensures.few, c.if-times_across-eq1.false) in
    rw c.times_down-times.ensures.value at (c.lay_times-else-times_across-eq1.ensures dots layers
    (λ u w h l. c.doubled.ensures u h ∙ rw two at (same u w h (rw c.times_down-times.ensures.value at l))) page)
