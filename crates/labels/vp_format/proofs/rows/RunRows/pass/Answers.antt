use Rattle.std.proofs.Common.{◌≡◌, ℕ, ◌+◌, ◌-◌, ◌<◌, ◌≤◌, false, refl, ap, sym, subst, ◌∙◌, arith}
use Rattle.vp_format.specs.declared.rows.Spot.{Spot}
use Rattle.vp_format.specs.Pictures.{Cursor, is_refused}
use Rattle.vp_format.specs.Cursors.{picture_of, is_white}
use Rattle.vp_format.proofs.Even.{even_taken, even_cursor}
use Rattle.vp_format.proofs.Marks.{marked_refusal, decoded_taken, answer_refused, next_cursor, stopped_cursor}
use Rattle.vp_format.proofs.PassedRows.{spelled_passed}
use Rattle.vp_format.proofs.rows.RunRows.pass.Goals as goal

pub invariant_of-self : goal.invariant_of-self
invariant_of-self c =
    let i = c.self.inside in let m = c.self.invariant.mark in let k = c.even_rows-rows.result.0 in let b = c.behind_even-self-inside.ensures in
    let even = λ (n : ℕ) (few : n ≤ k). c.even_rows-rows.ensures.even i.coding i.codes.bytes.now n (sym c.len.ensures) m.here m.whole few in
    even_cursor _ _ k c.even_rows-rows.result.1 c.self.invariant c.if-rows-gt0.true c.even_rows-rows.ensures.digit (rw b.before (even (k - 1) (omega arith))) (rw b.here (even k (omega arith)))
    b.next refl refl refl refl refl refl refl b.here refl

pub returns-then-rows-gt0-clause-taken : goal.returns-then-rows-gt0-clause-taken
returns-then-rows-gt0-clause-taken c =
    let i = c.self.inside in let m = c.self.invariant.mark in let e = c.even_rows-rows in
    rw (sym c.self.view_is) (λ y from to. even_taken (picture_of i) i.mark e.result.0 e.result.1 _ y c.self.invariant.some m (e.ensures.even i.coding i.codes.bytes.now e.result.0 (sym c.len.ensures) m.here m.whole (omega arith)) from to)

pub invariant_of-self-in_default : goal.invariant_of-self-in_default
invariant_of-self-in_default c = stopped_cursor _ _ c.self.invariant c.if-self.false refl c.next_row.ensures.advanced c.in_default.ensures.read refl refl refl refl refl refl

pub returns-in_default-clause-fault : goal.returns-in_default-clause-fault
returns-in_default-clause-fault c = grind (arith, marked_refusal, answer_refused)

pub invariant_of-self-2 : goal.invariant_of-self-2
invariant_of-self-2 c =
    let b = c.behind-self-inside.ensures in
    let here = b.here ∙ ap (λ (at : ℕ). let s : Spot = record { left = c.in-Ok.end.left; digit = c.in-Ok.end.digit; at = at } in s) c.at.ensures in
    let none = c.even_rows-rows.ensures.none (omega arith) c.requires.some in
    let more = subst (λ (k : ℕ). is_white k c.self.inside.mark.here ≡ false) c.len.ensures none.1 in
    next_cursor _ _ c.in-Ok.end c.self.invariant c.if-self.false c.if-self.false c.next_row.ensures.advanced c.in-Ok.ensures.read refl refl refl refl b.next here b.before
    (spelled_passed _ _ c.in-Ok.end c.self.invariant c.if-self.false c.next_row.ensures.advanced c.in-Ok.ensures.read refl refl refl refl b.next here refl none.0 more)

pub returns-clause-taken : goal.returns-clause-taken
returns-clause-taken c =
    let i = c.self.inside in let p = picture_of i in
    let good = marked_refusal p i.mark c.self.invariant.mark ∙ decoded_taken _ _ _ _ _ _ _ _ (omega (arith, c.self.invariant.some)) c.in-Ok.ensures.read in
    subst (λ (q : Cursor). (y : ℕ) → q.next ≤ y → y < q.next + 1 → is_refused q.picture y ≡ false) c.self.view_is
    (λ y from to. ap (is_refused p) (let e : y ≡ i.mark.next = omega arith in e) ∙ good)
