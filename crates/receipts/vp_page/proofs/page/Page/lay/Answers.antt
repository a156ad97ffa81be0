use Rattle.std.proofs.Common.{◌+◌, ◌-◌, ◌≡◌, ◌≤◌, ◌∷◌, ◌∙◌, refl, subst, sym, arith}
use Rattle.vp_dots.specs.Dots.{dot}
use Rattle.vp_page.proofs.Pages.{rows_make_an_image, times_more}
use Rattle.vp_page.specs.Layers.{Laid, Mark, first_rows}
use Rattle.vp_page.specs.Pages.{HasPage}
use Rattle.vp_page.proofs.page.Page.lay.Goals as goal

pub loop-line-preserved : goal.loop-line-preserved
loop-line-preserved g c =
    let m : Mark = record { area = c.args.area; direction = c.args.direction; top = c.args.top; high = g.I.Ink.height c.args.ink.now; dot = g.I.Ink.ink_at c.args.ink.now } in
    let n = c.min-behind.result + 1 - c.loop-line.line in
    let last : c.min-behind.result ≤ c.alike-last.result.1 = omega (arith, c.min-behind.ensures) in
    let here : c.loop-line.line ≤ c.min-behind.result = omega (arith, c.min-behind.ensures, c.loop-line-test.true, c.alike-last.ensures.last) in
    let behind : c.loop-line.line + n ≡ c.min-behind.result + 1 = omega (arith, here) in
    record {
      within = omega (arith, c.min-behind.ensures, c.loop-line-test.true);
      laid = λ layers page. subst (λ k. HasPage (Laid (first_rows k m) ∷ layers) c.lay_times.new.self) behind
          (times_more m c.loop-line.line n (c.args.top + c.loop-line.line) (dot c.drawn-row.result) layers c.lay_times.new.self refl
          (λ u i h l. c.drawn-row.ensures u ∙ sym (c.alike-last.ensures.same u (c.loop-line.line + i) (omega (arith, c.alike-last.ensures.first)) (omega (arith, last, l, behind))))
          (c.lay_times.ensures _ (c.loop-line.invariant.laid layers page)));
    }

pub returns : goal.returns
returns g c = λ layers page.
    let m : Mark = record { area = c.args.area; direction = c.args.direction; top = c.args.top; high = g.I.Ink.height c.args.ink.now; dot = g.I.Ink.ink_at c.args.ink.now } in
    rows_make_an_image.all m c.loop-line.line layers _ (λ u w e l. let within = g.met.I.Ink.outside c.args.ink.now u w e in omega (arith, within.1, l, c.depth.ensures)) (omega (arith, c.depth.ensures))
    (c.loop-line.invariant.laid layers page)
