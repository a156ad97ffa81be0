use Rattle.std.proofs.Common.{inl, inr, ◌≡◌, ℕ, ◌+◌, ◌-◌, ◌*◌, ◌<◌, ◌≤◌, true, false, arith, refl, ap, ◌∙◌, pos}
use Rattle.std.proofs.lemmas.Bool.{both_ways, cases_lt}
use Rattle.vp_dots.specs.Dots.{span}
use Rattle.vp_dots.proofs.Placing.{rows_init}
use Rattle.vp_label_size.specs.declared.TheConstants.{BAND_ROWS}
use Rattle.vp_field.specs.Places.{at_place}
use Rattle.vp_field.specs.Axes.{dot_on, laid, shown_dot}
use Rattle.vp_field.specs.declared.axis.Lines.TheVariants.{Along}
use Rattle.vp_field.proofs.Places.{line_inside}
use Rattle.vp_field.proofs.Counts.{few_pieces}
use Rattle.vp_field.proofs.OnLabel.{shown_rows, shown_above, shown_lines}
use Rattle.vp_field.proofs.paint.paint_along.Goals as goal

pub loop-k-init : goal.loop-k-init
loop-k-init g c =
    let ink = λ (u v : ℕ). g.I.Ink.ink_at c.args.ink.ink.now u v in
    let lines : (u v : ℕ) → ink u v ≡ true → v < c.size-w.result.1 = λ u v e. rw c.size-w.ensures.height (g.met.I.Ink.outside c.args.ink.ink.now u v e).1 in
    record {
      ink = refl;
      painted = shown_rows c.args.seen c.args.op _ _ _ (rows_init BAND_ROWS c.args.op (λ x k. laid Along c.args.columns c.args.rows ink (pos x) (pos (c.args.first + k))) _ _
          (λ x k l. c.span-from.ensures.before _ (line_inside ink c.size-w.result.1 lines (dot_on c.args.columns (pos x))) (c.args.first + k) (omega (arith, c.from-first.ensures, c.saturating_sub-k.ensures))));
      lines = omega (arith, c.min-end.ensures, c.requires.fresh);
      counted = record { few = c.requires.few; within = omega (arith, c.requires.whole) };
      none = λ _. omega (arith, c.from-first.ensures, c.saturating_sub-k.ensures);
    }

pub loop-k-preserved : goal.loop-k-preserved
loop-k-preserved g c =
    let ink = λ (u v : ℕ). g.I.Ink.ink_at c.args.ink.ink.now u v in
    let dots = λ (x k : ℕ). laid Along c.args.columns c.args.rows ink (pos x) (pos (c.args.first + k)) in
    let line = shown_dot ink c.args.columns c.shown-shown.result.line in
    let wide : (u v : ℕ) → ink u v ≡ true → u < c.size-w.result.0 = λ u v e. rw c.size-w.ensures.width (g.met.I.Ink.outside c.args.ink.ink.now u v e).0 in
    let white : (v p : ℕ) → p < c.args.seen → span (8 * c.reached-reach.result.from) (8 * c.reached-reach.result.to) p ≡ false → at_place (λ u. ink u v) (dot_on c.args.columns (pos p)) ≡ false = λ v p l s. c.reached-reach.ensures (λ u. ink u v) (λ u e. wide u v e) p l s in
    let alike : (x k : ℕ) → c.loop-k.k ≤ k → k < c.loop-k.k + c.shown-shown.result.places → dots x k ≡ line x = λ x k a b.
    let there : c.args.first + k ≡ c.from-first.result + c.loop-k.k + (k - c.loop-k.k) = omega (arith, c.from-first.ensures) in
    ap (λ n. at_place (λ v. at_place (λ u. ink u v) (dot_on c.args.columns (pos x))) (dot_on c.args.rows (pos n))) there ∙ (rw c.loop-k.invariant.ink at c.shown-shown.ensures.line) (k - c.loop-k.k) (omega arith) (dot_on c.args.columns (pos x)) in
    record {
      ink = c.paint_alike.ensures.ink ∙ c.loop-k.invariant.ink;
      painted = shown_lines c.args.seen c.args.op dots line c.loop-k.k c.shown-shown.result.places _ _ _ alike c.loop-k.invariant.painted ((rw c.loop-k.invariant.ink at c.paint_alike.ensures.painted) c.args.seen white);
      lines = omega (arith, c.loop-k.invariant.lines, c.shown-shown.ensures.some, c.shown-shown.ensures.within, c.paint_alike.ensures.counted);
      counted = c.paint_alike.ensures.within;
      none = λ e. absurd (omega (arith, e, c.paint_alike.ensures.counted));
    }

pub returns-clause-dots : goal.returns-clause-dots
returns-clause-dots g c =
    let ink = λ (u v : ℕ). g.I.Ink.ink_at c.args.ink.ink.now u v in
    let lines : (u v : ℕ) → ink u v ≡ true → v < c.size-w.result.1 = λ u v e. rw c.size-w.ensures.height (g.met.I.Ink.outside c.args.ink.ink.now u v e).1 in
    shown_above c.args.seen c.args.op (λ x k. laid Along c.args.columns c.args.rows ink (pos x) (pos (c.args.first + k))) c.loop-k.k _ _
    (λ x k a b. c.span-from.ensures.behind _ (line_inside ink c.size-w.result.1 lines (dot_on c.args.columns (pos x))) (c.args.first + k) (omega (arith, c.from-first.ensures))) c.loop-k.invariant.painted

pub returns-clause-lines : goal.returns-clause-lines
returns-clause-lines g c = grind (arith, few_pieces)

pub returns-clause-counted : goal.returns-clause-counted
returns-clause-counted g c = λ x k low e.
    let ink = λ (u v : ℕ). g.I.Ink.ink_at c.args.ink.ink.now u v in
    let lines : (u v : ℕ) → ink u v ≡ true → v < c.size-w.result.1 = λ u v e. rw c.size-w.ensures.height (g.met.I.Ink.outside c.args.ink.ink.now u v e).1 in
    let inside = line_inside ink c.size-w.result.1 lines (dot_on c.args.columns (pos x)) in
    let shown = laid Along c.args.columns c.args.rows ink (pos x) (pos (c.args.first + k)) in
    elim (cases_lt 0 c.loop-k.pen.lines) [
      | inl some ↦ omega (arith, some, c.work.ensures)
      | inr none ↦ absurd (elim (cases_lt (c.args.first + k) c.span-from.result.0) [
        | inl above ↦ both_ways shown (c.span-from.ensures.before _ inside (c.args.first + k) above) e
        | inr at ↦ both_ways shown (c.span-from.ensures.behind _ inside (c.args.first + k) (let start = c.loop-k.invariant.none (omega arith) in omega (arith, c.from-first.ensures, start))) e
      ])
    ]
