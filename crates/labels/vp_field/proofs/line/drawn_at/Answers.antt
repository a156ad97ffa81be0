use Rattle.std.proofs.Common.{◌*◌, rules, ap, ◌∙◌, w64, to_z, of_z, pos, neg_ℤ, ◌-ℤ◌, arith}
use mir.Val.{SFits}
use Rattle.std.proofs.lemmas.Int.{to_z-of_z}
use Rattle.vp_field.proofs.Windowed.{read_forwards, read_backwards}
use Rattle.vp_field.proofs.line.drawn_at.Goals as goal

pub returns-in-Forward-clause-dots : goal.returns-in-Forward-clause-dots
returns-in-Forward-clause-dots c = grind (arith, read_forwards, to_z-of_z)

pub returns-in-Back-clause-dots : goal.returns-in-Back-clause-dots
returns-in-Back-clause-dots c = λ line dots n p l.
    let fits : SFits w64 c.offset_from_end.result = search rules in
    let small : SFits w64 c.in-Back.at = search (rules, (rw c.in-Back.is at c.requires.near)) in
    rw c.in-Back.is (read_backwards c.args.bytes c.args.from _ (to_z w64 (of_z w64 c.offset_from_end.result)) line dots
    (rw (to_z-of_z w64 c.offset_from_end.result fits) (c.offset_from_end.ensures ∙ ap (λ z. pos c.args.from -ℤ pos 1 -ℤ z -ℤ neg_ℤ (pos (8 * c.args.bytes))) (to_z-of_z w64 c.in-Back.at small))) n p l)
