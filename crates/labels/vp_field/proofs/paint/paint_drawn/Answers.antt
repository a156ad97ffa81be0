use Rattle.std.proofs.lemmas.Grind.{common_steps}
use Rattle.std.proofs.Common.{◌≡◌, ℕ, ◌+◌, ◌*◌, ◌<◌, ◌&&◌, ltb, leb, ap, ◌∙◌, arith}
use Rattle.std.proofs.lemmas.Bool.{le-leb}
use Rattle.std.proofs.lemmas.Bool.Decides.{nat_tests}
use Rattle.vp_dots.specs.Dots.{dot, span}
use Rattle.vp_dots.proofs.Heights.{rows_next}
use Rattle.vp_dots.proofs.Paints.{painted_same}
use Rattle.vp_label_size.specs.declared.TheConstants.{BAND_BYTES}
use Rattle.vp_field.specs.Axes.{shown_dot}
use Rattle.vp_field.proofs.Alike.{no_line}
use Rattle.vp_field.proofs.OnLabel.{in_span, shown_rows, shown_same}
use Rattle.vp_field.proofs.OnWhite.{dot_white}
use Rattle.vp_field.proofs.paint.paint_drawn.Goals as goal

pub draw_on-requires : goal.draw_on-requires
draw_on-requires g c = (omega arith, (omega arith, (c.requires.columns, (omega arith, ((λ p h. dot_white BAND_BYTES p (omega (arith, h))), (c.requires.count, c.requires.within))))))

pub loop-i-preserved : goal.loop-i-preserved
loop-i-preserved g c = grind (arith, common_steps, rows_next, painted_same, le-leb)

-- beside the bytes that are painted the line is white, where it is shown
pub returns-clause-painted : goal.returns-clause-painted
returns-clause-painted g c = λ seen white.
    let a = c.args in
    let line = shown_dot (g.I.Ink.ink_at a.pen.now.ink.now) a.columns a.shown.line in
    let done : c.loop-i.i ≡ a.shown.places = omega arith in
    let same : (x : ℕ) → x < seen → (span (8 * a.reach.from) (8 * a.reach.to) x && dot c.draw_on.new.line x) ≡ line x = λ x l.
    in_span (8 * a.reach.from) (8 * a.reach.to) x (dot c.draw_on.new.line x) (line x) (λ m. let here : 0 + x ≡ x = omega arith in c.draw_on.ensures.dots x (omega (arith, m, a.reach.within)) ∙ ap line here)
    (λ e. no_line _ a.shown.line (λ v. white v x l e)) in
    shown_same seen a.op (λ x r. ltb r (a.k + c.loop-i.i) && (leb a.k r && (span (8 * a.reach.from) (8 * a.reach.to) x && dot c.draw_on.new.line x))) (λ x r. span a.k (a.k + a.shown.places) r && line x) a.band.now _
    (λ x k l h. rw (done, same x l) (grind (arith, nat_tests))) (shown_rows seen a.op _ _ _ c.loop-i.invariant)
