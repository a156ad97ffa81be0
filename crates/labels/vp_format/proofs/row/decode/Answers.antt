use Rattle.std.proofs.Common.{inl, inr, ◌≡◌, ℕ, ◌+◌, ◌-◌, ◌*◌, List, ◌∷◌, refl, arith, ap, sym, ◌∙◌, subst, length}
use Rattle.vp_format.specs.declared.codes.Symbol.TheVariants.{Digits}
use Rattle.vp_format.specs.declared.rows.Coding.TheVariants.{RunLength}
use Rattle.vp_format.specs.declared.rows.Spot.{Spot}
use Rattle.vp_format.specs.Codes.{spelled}
use Rattle.vp_format.specs.Cursors.{symbols_at, symbols_from, RowRead}
use Rattle.vp_format.proofs.Quick.{values_from, value_from, plain_reached, read_anew}
use Rattle.vp_format.proofs.Reached.{reached_at, start_reached, run_done, run_before, run_reached, ended_decoded}
use Rattle.vp_format.proofs.row.decode.Goals as goal
use Rattle.vp_format.proofs.row.decode.Goals.{Start}

abbrev spot : Start → Spot
spot c = record { left = c.args.left; digit = c.args.digit; at = c.args.codes.now.at }

pub returns-then-left-eq0-clause-read : goal.returns-then-left-eq0-clause-read
returns-then-left-eq0-clause-read c =
    let codes = c.args.codes.now.bytes.now in let w = 2 * length c.args.row.now in
    let s = spot (goal.at.returns-then-left-eq0-clause-read c).Start in let all = symbols_at RunLength codes s in
    let read = subst (λ (n : ℕ). RowRead (2 * n) RunLength codes s c.read_on.result c.read_on.new.codes.at c.plain_row.new.row c.read_on.new.row) c.plain_row.ensures.len
    ((rw (c.if-plain_row.ensures.same refl) at c.read_on.ensures.read) s (run_done _ all s.at _ 0 _ s.digit (symbols_from codes s.at) s.at c.if-left-eq0.true (start_reached _ all s.at c.args.places.now))) in
    elim (c.if-plain_row.ensures.kept refl) [
      | inl same ↦ subst (λ (r : List ℕ). RowRead w RunLength codes s c.read_on.result c.read_on.new.codes.at r c.read_on.new.row) same read
      | inr begun ↦ read_anew w codes c.plain_row.new.row c.args.row.now c.read_on.new.row s _ c.read_on.result c.if-left-eq0.true begun.0 begun.1 read
    ]

pub returns-then-to-width-clause-read : goal.returns-then-to-width-clause-read
returns-then-to-width-clause-read c =
    let w = 2 * length c.args.row.now in let codes = c.args.codes.now.bytes.now in
    let s = spot (goal.at.returns-then-to-width-clause-read c).Start in let all = symbols_at RunLength codes s in
    let to = c.end_of_run-to.result in
    let run = run_reached w all s.at c.args.places.now c.fill.new.places 0 to s.left s.digit 0 (symbols_from codes s.at) s.at (omega arith) (omega arith) c.requires.digit (start_reached w all s.at c.args.places.now) c.fill.ensures.filled in
    let left : s.left - (to - 0) ≡ s.left - to = omega arith in
    ended_decoded codes c.fill.new.places c.args.row.now _ c.args.codes.now w s c.ended-then-to-width.result (s.left - to) s.digit s.at c.ended-then-to-width.ensures (omega arith) refl c.requires.reading c.requires.digit refl c.pack_filled.ensures.packed
    (reached_at w all s.at _ to w _ _ (s.at + 0) s.at c.if-to-width.true (ap (λ n. spelled (Digits n s.digit) 0 ∷ symbols_from codes s.at) left) (omega arith) run)

pub returns-then-plain_row-clause-read : goal.returns-then-plain_row-clause-read
returns-then-plain_row-clause-read c =
    let codes = c.args.codes.now.bytes.now in let w = 2 * length c.args.row.now in
    let s = spot (goal.at.returns-then-plain_row-clause-read c).Start in let row = c.if-plain_row.ensures in
    let inside = row.inside refl in let e = c.plain_row.new.self in
    let same : e.bytes.now ≡ codes = c.plain_row.ensures.advanced.bytes in
    let there : s.at + w ≡ e.at = sym (row.at refl) in
    let left : symbols_from codes (s.at + w) ≡ symbols_from e.bytes.now e.at = ap (λ cs. symbols_from cs (s.at + w)) (sym same) ∙ ap (symbols_from e.bytes.now) there in
    let all = symbols_at RunLength codes s in let vs = values_from codes s.at w in
    ended_decoded codes vs c.args.row.now c.plain_row.new.row e w s c.ended.result 0 0 (s.at + w) c.ended.ensures (omega arith) same c.plain_row.ensures.advanced.reading (omega arith) there (λ _ j l. row.packed refl j l ∙ sym (value_from codes s.at w j inside l))
    (run_before w all s.at vs w 0 _ (s.at + w) (reached_at w all s.at vs w w _ _ _ _ refl left refl (plain_reached w codes s c.if-left-eq0.true inside (row.digits refl))))
