use Rattle.std.proofs.lemmas.Grind.{common_steps}
use Rattle.std.proofs.Common.{ℕ, ap, ◌∙◌, arith, refl}
use Rattle.vp_format.specs.declared.rows.Spot.{Spot}
use Rattle.vp_format.proofs.Marks.{marked_place, value-at, marked_refusal, decoded_taken, answer_refused, answer_row, next_cursor, stopped_cursor}
use Rattle.vp_format.proofs.Nibbles.{nibble_front}
use Rattle.vp_format.proofs.PassedRows.{read_passed}
use Rattle.vp_format.proofs.rows.RunRows.next_row.Goals as goal

pub invariant_of-self : goal.invariant_of-self
invariant_of-self c = stopped_cursor _ _ c.self.invariant c.if-self-2.false refl c.next_row-end.ensures.advanced c.in-Err.ensures.read refl refl refl refl refl refl

pub invariant_of-self-in-Ok : goal.invariant_of-self-in-Ok
invariant_of-self-in-Ok c =
    let b = c.behind-self-inside.ensures in
    let here = b.here ∙ ap (λ (at : ℕ). let s : Spot = record { left = c.in-Ok.end.left; digit = c.in-Ok.end.digit; at = at } in s) c.at.ensures in
    next_cursor _ _ c.in-Ok.end c.self.invariant c.if-self-2.false c.if-self-2.false c.next_row-end.ensures.advanced c.in-Ok.ensures.read refl refl refl refl b.next here b.before
    (read_passed _ _ c.in-Ok.end c.self.invariant c.if-self-2.false c.next_row-end.ensures.advanced c.in-Ok.ensures.read refl refl refl refl b.next here refl)

pub returns-in-Err-clause-answer : goal.returns-in-Err-clause-answer
returns-in-Err-clause-answer c = grind (arith, marked_refusal, answer_refused)

pub returns-in-Err-clause-next : goal.returns-in-Err-clause-next
returns-in-Err-clause-next c = grind (arith, marked_refusal, answer_refused)

pub returns-in-Ok-clause-answer : goal.returns-in-Ok-clause-answer
returns-in-Ok-clause-answer c = grind (arith, marked_refusal, decoded_taken, answer_row)

pub returns-in-Ok-clause-next : goal.returns-in-Ok-clause-next
returns-in-Ok-clause-next c = grind (arith, common_steps, marked_refusal, decoded_taken, answer_row, c.self.inside, c.self.inside.mark, c.in-Ok.ensures.read, c.behind-self-inside.result.next, c.if-self.false, c.self.inside.rows, c.self.inside.mark.next)

pub returns-in-Ok-clause-row : goal.returns-in-Ok-clause-row
returns-in-Ok-clause-row c _ x l = grind (arith, nibble_front, marked_place, value-at)
