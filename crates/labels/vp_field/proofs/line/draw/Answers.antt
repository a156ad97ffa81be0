use Rattle.std.proofs.Common.{ℕ, rules, refl, sym, ◌∙◌, w64}
use mir.Val.{SFits}
use Rattle.std.proofs.lemmas.Int.{to_z-of_z}
use Rattle.vp_field.proofs.OnWhite.{on_white}
use Rattle.vp_field.proofs.line.draw.Goals as goal

pub returns-in-Forward-clause-dots : goal.returns-in-Forward-clause-dots
returns-in-Forward-clause-dots g c = λ p h.
    let line = λ (u : ℕ). g.I.Ink.ink_at c.args.ink.now u c.args.v in
    let fits : SFits w64 c.drawn_at-at.result = search rules in
    let seen = c.drawn_at-at.ensures.dots line _ (on_white g.row.N _ line _ _ c.told-line c.requires.white (rw (to_z-of_z w64 c.drawn_at-at.result fits) at c.paint_pieces.ensures.painted)) p h in
    rw c.in-Forward.is (sym (rw c.in-Forward.is at seen))

pub returns-in-Back-clause-dots : goal.returns-in-Back-clause-dots
returns-in-Back-clause-dots g c = λ p h.
    let fits : SFits w64 c.drawn_at-at.result = search rules in
    let seen = c.drawn_at-at.ensures.dots (λ (u : ℕ). g.I.Ink.ink_at c.args.ink.now u c.args.v) _ (λ d l. refl) p h in
    rw c.in-Back.is ((rw (to_z-of_z w64 c.drawn_at-at.result fits) at c.draw_reversed.ensures.dots) p h ∙ sym (rw c.in-Back.is at seen))
