use Rattle.std.proofs.Common.{arith, w64, to_z, of_z, sym, ap, ◌∙◌, ℕ, ◌≡◌, ◌<◌, true, false}
use Rattle.std.specs.Prelude.{unwrap_or, option_map}
use Rattle.std.proofs.lemmas.Int.{to_z-of_z}
use Rattle.vp_dots.specs.Dots.{shifted}
use Rattle.vp_dots.specs.Places.{placed}
use Rattle.vp_dots.proofs.Paints.{painted_same}
use Rattle.vp_dots.proofs.Placing.{rows_init, rows_more, rows_skip, rows_all, line_inside}
use Rattle.vp_dots.proofs.place.paint_at.Goals as goal
use Rattle.vp_dots.proofs.place.paint_at.Goals.{in-Some, in_default}

pub loop-y-init : goal.loop-y-init
loop-y-init g c = rows_init _ _ (placed _ _ (λ (u v : ℕ). g.I.Ink.ink_at c.args.ink.now u v)) _ _ (λ x k l. c.first_row-y.ensures _ k l)

pub loop-y-preserved : goal.loop-y-preserved
loop-y-preserved g c =
    let ink = λ (u v : ℕ). g.I.Ink.ink_at c.args.ink.now u v in
    let lines : (u v : ℕ) → ink u v ≡ true → v < c.size-h.result.1 = λ u v e. rw c.size-h.ensures.height (g.met.I.Ink.outside c.args.ink.now u v e).1 in
    let line = λ (d v : ℕ). shifted (to_z w64 (of_z w64 c.args.left)) (λ u. ink u v) d in
    let falls = λ (d : ℕ). c.line_on.ensures (line d) (λ v e. let l = line_inside _ ink c.size-h.result.1 lines d v e in omega arith) in
    elim c.match-line_on.branch [
      | in-Some w ↦ rw w.band-is (rows_more _ _ _ _ _ _ _ (omega (arith, w.row_mut.ensures.rows)) (omega arith) c.loop-y.invariant
          (rw (sym w.row_mut.ensures.value) (painted_same _ _ _ _ _ (λ d m. sym (falls d ∙ ap (λ o. unwrap_or (option_map (line d) o) false) w.in-Some.is)) w.paint_row.ensures)))
      | in_default w ↦ rw w.band-is (rows_skip _ _ _ _ _ _ c.loop-y.invariant (λ d. falls d ∙ ap (λ o. unwrap_or (option_map (line d) o) false) w.in_default.is))
    ]

pub returns : goal.returns
returns g c =
    let ink = λ (u v : ℕ). g.I.Ink.ink_at c.args.ink.now u v in
    let lines : (u v : ℕ) → ink u v ≡ true → v < c.size-h.result.1 = λ u v e. rw c.size-h.ensures.height (g.met.I.Ink.outside c.args.ink.now u v e).1 in
    rw (sym (to_z-of_z w64 c.args.left c.ranges.left), sym (to_z-of_z w64 c.args.top c.ranges.top)) (rows_all _ _ (placed _ _ ink) c.loop-y.y _ _
    (λ x k a b. c.row_below.ensures _ (line_inside _ ink c.size-h.result.1 lines x) k (omega arith)) c.loop-y.invariant)
