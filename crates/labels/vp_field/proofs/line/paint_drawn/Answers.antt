use Rattle.std.proofs.Common.{◌≡◌, ℕ, ◌+◌, arith, ap, ◌∙◌, pos}
use Rattle.vp_label_size.specs.declared.TheConstants.{BAND_BYTES}
use Rattle.vp_field.specs.Axes.{dot_on}
use Rattle.vp_field.specs.Places.{at_place}
use Rattle.vp_field.proofs.OnWhite.{dot_white}
use Rattle.vp_field.proofs.line.paint_drawn.Goals as goal

pub draw-pieces-requires : goal.draw-pieces-requires
draw-pieces-requires g c = (omega arith, (c.requires.near, (omega arith, λ p h. dot_white BAND_BYTES p (omega (arith, h)))))

pub returns-clause-some : goal.returns-clause-some
returns-clause-some g c = λ p h e.
    let line = λ (u : ℕ). g.I.Ink.ink_at c.args.ink.now u c.args.v in
    let there : 0 + p ≡ p = omega arith in
    c.draw-pieces.ensures.some p (omega (arith, h)) (c.draw-pieces.ensures.dots p (omega (arith, h)) ∙ ap (λ n. at_place line (dot_on c.args.axis (pos n))) there ∙ e)
