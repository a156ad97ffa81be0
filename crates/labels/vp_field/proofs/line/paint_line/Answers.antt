use Rattle.std.proofs.Common.{ℕ, arith, rules, ◌∙◌, w64}
use mir.Val.{SFits}
use Rattle.std.proofs.lemmas.Int.{to_z-of_z}
use Rattle.vp_field.proofs.Places.{shifted_at}
use Rattle.vp_field.proofs.line.paint_line.Goals as goal

pub returns-in-Forward-clause-some : goal.returns-in-Forward-clause-some
returns-in-Forward-clause-some g c = λ p h e.
    let line = λ (u : ℕ). g.I.Ink.ink_at c.args.ink.now u c.args.v in
    let small : SFits w64 c.in-Forward.at = search (rules, (rw c.in-Forward.is at c.requires.near)) in
    (rw (to_z-of_z w64 c.in-Forward.at small) at c.paint_pieces.ensures.some) p (omega (arith, h, c.requires.row)) (shifted_at c.in-Forward.at line p ∙ (rw c.in-Forward.is at e))
