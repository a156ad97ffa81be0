use Rattle.std.proofs.Common.{◌≡◌, ◌+◌, ◌*◌, ◌<◌, [], ◌∷◌, min, take, ap, ◌∙◌, subst, refl, length, arith, rules}
use Rattle.std.proofs.lemmas.List.{length-take}
use Rattle.vp_receipt.proofs.RasterRows.{shown_line}
use Rattle.std.proofs.lemmas.Bool.{lt-ltb, and_parts, ltb-true}
use Rattle.vp_page.specs.Layers.{Laid, first_rows}
use Rattle.vp_page.specs.Pages.{HasPage}
use Rattle.vp_page.specs.declared.line.TheConstants.{LINE_DOTS}
use Rattle.vp_page.proofs.Shown.{none_told}
use Rattle.vp_page.proofs.Pages.{lines_more}
use Rattle.vp_receipt_settings.specs.Rasters.{times_down}
use Rattle.vp_receipt.specs.PageMarks.{mark_of, rows_dot}
use Rattle.vp_receipt.proofs.PageLines.{length_small}
use Rattle.vp_dots.specs.declared.square.TheConstants.{SIDE}
use Rattle.vp_receipt.proofs.raster_page.lay_many.Goals as goal

pub loop-k-preserved : goal.loop-k-preserved
loop-k-preserved g c = λ layers page.
    let r = c.args.raster.now in
    let p = c.args.p in
    let bytes = c.args.bytes.now in
    let high = c.args.rows * times_down r.scale in
    let m = mark_of p high (rows_dot r.scale r.bytes c.args.rows bytes) in
    let k = c.loop-k.k in
    let n = c.write_lines-few.result in
    let lines = c.write_lines-few.new.lines in
    let all : c.args.rows * c.times_down.result ≡ high = ap (λ t. c.args.rows * t) c.times_down.ensures.value in
    let short = length_small p.area p.direction c.requires.fit.across c.requires.fit.down in
    let whole : length lines ≡ SIDE = search rules in
    let long : length (take n lines) ≡ n = omega (arith, length-take n lines, whole) in
    let here : min (SIDE * k) high ≡ SIDE * k = omega (arith, all) in
    let next : SIDE * k + n ≡ min (SIDE * (k + 1)) high = omega (arith, all) in
    subst (λ n. HasPage (Laid (first_rows n m) ∷ layers) c.lay_lines.new.self) next
    (lines_more m (SIDE * k) n (take n lines) layers c.lay_lines.new.self long
    (λ u w h l. let shown : u < LINE_DOTS = omega (arith, h, short) in shown_line lines n w u ∙ rw (lt-ltb w n l, lt-ltb u LINE_DOTS shown) (c.write_lines-few.ensures.dots w u l shown
    ∙ ap (λ x. rows_dot r.scale x c.args.rows bytes u (SIDE * k + w)) c.from-wide.ensures))
    (rw (none_told [] (take n lines) refl) at (c.lay_lines.ensures _ (subst (λ n. HasPage (Laid (first_rows n m) ∷ layers) c.loop-k.page) here (c.loop-k.invariant layers page)))))

pub returns : goal.returns
returns g c = grind (arith, c.times_down.ensures.value, ltb-true, and_parts, c.loop-k.invariant)

pub loop-k-init : goal.loop-k-init
loop-k-init g c = grind arith
