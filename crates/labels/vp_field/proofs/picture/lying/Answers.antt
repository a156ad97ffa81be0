use Rattle.std.proofs.Common.{rules, ◌∙◌, ap, sym, w64}
use mir.Val.{SFits}
use Rattle.std.proofs.lemmas.Int.{to_z-of_z}
use Rattle.vp_field.specs.Axes.{laid}
use Rattle.vp_field.specs.Views.{seen_x, seen_y}
use Rattle.vp_field.proofs.picture.lying.Goals as goal

pub returns-clause-ink : goal.returns-clause-ink
returns-clause-ink c ink x y =
    let a = c.args in
    let n = c.requires in
    let left : SFits w64 a.on.left = search (rules, n.left_low, n.left_high) in
    let top : SFits w64 a.on.top = search (rules, n.top_low, n.top_high) in
    ap (λ l. laid l c.viewed.result.columns c.viewed.result.rows ink x y) (sym (c.viewed.ensures.lines ∙ c.turned.ensures.lines)) ∙ c.viewed.ensures.ink ink x y
    ∙ (rw (to_z-of_z w64 a.on.left left, to_z-of_z w64 a.on.top top) at (c.turned.ensures.ink ink (seen_x a.on.view x) (seen_y a.on.view y)))
