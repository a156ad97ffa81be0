use Rattle.std.proofs.Common.{◌≡◌, ◌+◌, ◌-◌, ◌*◌, ◌∙◌, ap, refl, sym, take, drop, arith}
use Rattle.std.proofs.lemmas.Bool.{lt-ltb}
use Rattle.vp_dots.specs.Dots.{dot}
use Rattle.vp_page.specs.Layers.{rows_mark}
use Rattle.vp_page.proofs.Pages.{rows_make_an_image}
use Rattle.vp_page.proofs.page.Page.lay_rows.Goals as goal

pub loop-k-preserved : goal.loop-k-preserved
loop-k-preserved g c = λ layers page.
    let k = c.loop-k.k in
    let wide = c.args.wide in
    let bytes = c.args.bytes.now in
    let long : k * wide + wide - k * wide ≡ wide = omega arith in
    rows_make_an_image.more (rows_mark c.args.area c.args.direction c.args.v wide c.args.rows bytes) k _ layers _
    (λ u _. ap (λ n. dot (take n (drop (k * wide) bytes)) u) long ∙ sym (rw (lt-ltb k c.args.rows c.loop-k-test.true) refl))
    (c.lay_row.ensures _ (c.loop-k.invariant layers page))
