use Rattle.std.proofs.lemmas.Bool.Decides.{nat_tests}
use Rattle.std.proofs.Common.{◌≡◌, ℕ, ◌+◌, ◌*◌, ◌/◌, ◌<◌, false, cond, ap, arith, length, ◌∙◌}
use Rattle.std.proofs.lemmas.List.{length-replicate}
use Rattle.vp_dots.specs.Dots.{span}
use Rattle.vp_page.proofs.PageRows.{clipped_right, row_made, whole_right}
use Rattle.vp_page.proofs.along.row_right.Goals as goal

pub returns-then-is_whole : goal.returns-then-is_whole
returns-then-is_whole g c = λ x h. row_made g.row.B _ x c.or_words.new.row c.or_words.ensures h
    ∙ whole_right c.args.line.now c.args.begin c.args.long x (c.is_whole.ensures.begins c.if-is_whole.true) (c.is_whole.ensures.words c.if-is_whole.true)

pub loop-i-init : goal.loop-i-init
loop-i-init g c = grind (arith, nat_tests)

pub loop-i-preserved : goal.loop-i-preserved
loop-i-preserved g c = grind (arith, nat_tests)

pub returns : goal.returns
returns g c = λ x h.
    let begin = c.args.begin in
    let n = g.row.B / 8 in
    let long : length c.loop-i.row ≡ g.row.B = c.loop-i.invariant.length_is ∙ length-replicate {A = ℕ} g.row.B 0 in
    let wide : x < 64 * n = omega (arith, h, c.requires.words) in
    c.fill_dots.ensures.dots_are x (omega (arith, h, long)) ∙ ap (λ b. cond (span (begin + c.args.long) (64 * c.min-words.result) x) false b) (row_made g.row.B _ x c.loop-i.row c.loop-i.invariant h)
    ∙ clipped_right n begin c.args.long c.min-words.result (begin / 64 + c.loop-i.i) x _ (omega (arith, c.min-words.ensures)) (omega (arith, c.saturating_sub-i-end.ensures))
    (λ m. omega (arith, c.min-words.ensures, c.div_ceil.ensures, m)) (λ m. omega (arith, c.min-words.ensures, c.div_ceil.ensures, c.saturating_sub-i-end.ensures, m)) wide
