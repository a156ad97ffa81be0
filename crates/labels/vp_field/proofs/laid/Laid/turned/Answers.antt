use Rattle.std.proofs.Common.{rules, w64, ap, ◌∙◌, pos, ◌+ℤ◌, ◌-ℤ◌}
use mir.Val.{SFits}
use Rattle.std.proofs.lemmas.Int.{to_z-of_z}
use Rattle.vp_field.proofs.Turns.{rotated, inverted, bottom_up}
use Rattle.vp_field.proofs.laid.Laid.turned.Goals as goal

pub returns-in-Rotated-clause-ink : goal.returns-in-Rotated-clause-ink
returns-in-Rotated-clause-ink c =
    let fits : SFits w64 c.last.result = search rules in
    rw c.in-Rotated.is (rotated c.args.w c.args.h c.args.left c.args.top _ _
    (to_z-of_z w64 c.last.result fits ∙ c.last.ensures ∙ ap (λ z. z +ℤ pos c.args.h -ℤ pos 1) (to_z-of_z w64 c.args.left c.ranges.left)) (to_z-of_z w64 c.args.top c.ranges.top))

pub returns-in-Inverted-clause-ink : goal.returns-in-Inverted-clause-ink
returns-in-Inverted-clause-ink c =
    let fits : SFits w64 c.last-in-Inverted.result = search rules in
    let fits-2 : SFits w64 c.last-in-Inverted-2.result = search rules in
    rw c.in-Inverted.is (inverted c.args.w c.args.h c.args.left c.args.top _ _
    (to_z-of_z w64 c.last-in-Inverted.result fits ∙ c.last-in-Inverted.ensures ∙ ap (λ z. z +ℤ pos c.args.w -ℤ pos 1) (to_z-of_z w64 c.args.left c.ranges.left))
    (to_z-of_z w64 c.last-in-Inverted-2.result fits-2 ∙ c.last-in-Inverted-2.ensures ∙ ap (λ z. z +ℤ pos c.args.h -ℤ pos 1) (to_z-of_z w64 c.args.top c.ranges.top)))

pub returns-in-BottomUp-clause-ink : goal.returns-in-BottomUp-clause-ink
returns-in-BottomUp-clause-ink c =
    let fits : SFits w64 c.last-in-BottomUp.result = search rules in
    rw c.in-BottomUp.is (bottom_up c.args.w c.args.h c.args.left c.args.top _ _ (to_z-of_z w64 c.args.left c.ranges.left)
    (to_z-of_z w64 c.last-in-BottomUp.result fits ∙ c.last-in-BottomUp.ensures ∙ ap (λ z. z +ℤ pos c.args.w -ℤ pos 1) (to_z-of_z w64 c.args.top c.ranges.top)))
