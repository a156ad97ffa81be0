use Rattle.std.proofs.Common.{◌≡◌, ◌+◌, ◌<◌, ◌&&◌, ◌∙◌, ap, sym, refl, ltb, [], get_or, length, arith}
use Rattle.std.proofs.lemmas.Bool.{false_from_ne_true}
use Rattle.vp_dots.specs.Dots.{dot}
use Rattle.vp_page.specs.declared.line.TheConstants.{LINE_DOTS}
use Rattle.vp_page.specs.Layers.{Mark, lines_mark}
use Rattle.vp_page.specs.Lines.{shown_lines}
use Rattle.vp_page.proofs.Pages.{rows_make_an_image, times_more}
use Rattle.vp_page.proofs.Shown.{length-shown, shows_own}
use Rattle.vp_page.proofs.Squares.{past_line, some_line}
use Rattle.vp_page.proofs.page.Page.lay_lines.Goals as goal

pub loop-i-preserved : goal.loop-i-preserved
loop-i-preserved g c =
    let i = c.loop-i.i in
    let lines = c.args.lines.now in
    let there : i < length lines = omega (arith, c.min-shown.ensures, c.loop-i-test.true) in
    let own : get_or (shown_lines c.args.same.now lines) i [] ≡ get_or lines i [] = shows_own c.args.same.now lines i there (λ some. c.loop-i.invariant.own some c.loop-i-test.true) in record {
      within = omega (arith, c.min-times.ensures, c.loop-i-test.true);
      own = λ some less.
          let all : c.min-times.result ≡ c.run_from.result = omega (arith, c.min-times.ensures, less) in
          false_from_ne_true _ (λ told. let last = c.run_from.ensures.next (rw all at told) in absurd (omega (arith, last, less, all, c.min-shown.ensures)));
      laid = λ layers page. times_more (lines_mark c.args.area c.args.direction c.args.v (shown_lines c.args.same.now lines)) i c.min-times.result (c.args.v + i) (dot (get_or lines i [])) layers c.lay_times.new.self refl
          (λ u k h l. past_line (get_or lines i []) u (omega (arith, c.told-lines i there)) ∙ ap (λ line. ltb u LINE_DOTS && dot line u) (sym (c.run_from.ensures.same k (omega (arith, l, c.min-times.ensures)) ∙ own)))
          (c.lay_times.ensures _ (c.loop-i.invariant.laid layers page));
    }

pub returns : goal.returns
returns g c = λ layers page.
    let shown = shown_lines c.args.same.now c.args.lines.now in
    let all = length-shown c.args.same.now c.args.lines.now in
    let m : Mark = lines_mark c.args.area c.args.direction c.args.v shown in
    rows_make_an_image.all m c.loop-i.i layers _
    (λ u w e l. let there = some_line shown w u e in omega (arith, there, all, l, c.loop-i-test.false, c.min-shown.ensures, c.saturating_sub.ensures, c.from-depth.ensures, c.depth.ensures))
    (omega (arith, all, c.loop-i-test.false, c.loop-i.invariant.within, c.min-shown.ensures, c.saturating_sub.ensures, c.from-depth.ensures, c.depth.ensures)) (c.loop-i.invariant.laid layers page)
