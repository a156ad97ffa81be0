use Rattle.std.proofs.Common.{◌≡◌, ℕ, ◌/◌, ◌-◌, ap, sym, ◌∙◌, take, min, ◌&&◌, nat_le, nat_lt, arith, List}
use Rattle.vp_page.specs.declared.page.TheConstants.{PAPER_BYTES}
use Rattle.vp_dots.specs.Dots.{dot}
use Rattle.vp_strips.specs.Rows.{clipped}
use Rattle.vp_receipt_settings.specs.Rasters.{times_across}
use Rattle.vp_strips.proofs.Rows.{row_of_same}
use Rattle.vp_page.specs.declared.line.TheConstants.{LINE_BYTES}
use Rattle.vp_strips.proofs.raster_row.write_raster_row.Goals as goal

pub returns-then-times_across-eq1 : goal.returns-then-times_across-eq1
returns-then-times_across-eq1 c =
    let times = times_across c.args.raster.now.scale in
    let one : times ≡ 1 = sym c.times_across.ensures.value ∙ c.if-times_across-eq1.true in
    let row = take (min c.args.raster.now.bytes LINE_BYTES) c.args.raster.now.row in
    c.write_clipped.ensures ∙ row_of_same PAPER_BYTES (clipped c.args.left c.args.length (dot c.kept-source.result.now)) (clipped c.args.left c.args.length (λ x. dot row (x / times)))
    (λ d _. ap (λ b. nat_le c.args.left d && nat_lt (d - c.args.left) c.args.length && b)
    (ap (λ (r : List ℕ). dot r (d - c.args.left)) c.kept-source.ensures.bytes ∙ ap (dot row) (let e : d - c.args.left ≡ (d - c.args.left) / 1 = omega arith in e ∙ ap (λ t. (d - c.args.left) / t) (sym one))))

pub returns-else-times_across-eq1 : goal.returns-else-times_across-eq1
returns-else-times_across-eq1 c =
    let times = times_across c.args.raster.now.scale in
    let two : times ≡ 2 = sym c.times_across.ensures.value ∙ (let e : c.times_across.result ≡ 2 = omega (arith, c.times_across.ensures.some, c.times_across.ensures.few, c.if-times_across-eq1.false) in e) in
    let row = take (min c.args.raster.now.bytes LINE_BYTES) c.args.raster.now.row in
    c.write_clipped-else-times_across-eq1.ensures ∙ row_of_same PAPER_BYTES (clipped c.args.left c.args.length (dot c.doubled.result)) (clipped c.args.left c.args.length (λ x. dot row (x / times)))
    (λ d h. ap (λ b. nat_le c.args.left d && nat_lt (d - c.args.left) c.args.length && b)
    (c.doubled.ensures (d - c.args.left) (omega arith) ∙ ap (λ (r : List ℕ). dot r ((d - c.args.left) / 2)) c.kept-source.ensures.bytes ∙ ap (λ t. dot row ((d - c.args.left) / t)) (sym two)))
