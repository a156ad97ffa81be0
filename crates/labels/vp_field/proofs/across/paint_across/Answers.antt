use Rattle.std.proofs.lemmas.Bool.Decides.{nat_tests}
use Rattle.std.proofs.Common.{refl, ◌≡◌, ℕ, ◌+◌, ◌<◌, ◌&&◌, ltb, true, arith, pos}
use Rattle.vp_label_size.specs.declared.TheConstants.{BAND_ROWS}
use Rattle.vp_field.specs.Axes.{dot_on, laid}
use Rattle.vp_field.specs.declared.axis.Lines.TheVariants.{Across}
use Rattle.vp_field.proofs.Places.{line_inside}
use Rattle.vp_field.proofs.Counts.{few_pieces}
use Rattle.vp_field.proofs.OnLabel.{shown_rows, shown_all}
use Rattle.vp_field.proofs.Columns.{columns_init, columns_more, columns_all, from_end, white_before_end}
use Rattle.vp_field.proofs.across.paint_across.Goals as goal

pub loop-x-init : goal.loop-x-init
loop-x-init g c =
    let ink = λ (u v : ℕ). g.I.Ink.ink_at c.args.ink.ink.now u v in
    let lines : (u v : ℕ) → ink u v ≡ true → v < c.size-h.result.1 = λ u v e. rw c.size-h.ensures.height (g.met.I.Ink.outside c.args.ink.ink.now u v e).1 in
    let shown = λ (x k : ℕ). laid Across c.args.columns c.args.rows ink (pos x) (pos (c.args.first + k)) in
    record {
      ink = refl;
      painted = columns_init _ _ (λ x k. ltb x c.max-end.result && shown x k) _ _
          (λ x k l. white_before_end x c.max-end.result (shown x k) (c.span-from.ensures.before _ (line_inside ink c.size-h.result.1 lines (dot_on c.args.rows (pos (c.args.first + k)))) x (omega arith)));
      lines = omega (arith, c.min.ensures, c.max-end.ensures, c.requires.fresh, c.requires.seen);
      counted = record { few = c.requires.few; within = omega (arith, c.requires.whole) };
      some = λ h. absurd (omega arith);
    }

pub loop-x-preserved : goal.loop-x-preserved
loop-x-preserved g c = grind (arith, nat_tests, columns_more)

pub returns-clause-dots : goal.returns-clause-dots
returns-clause-dots g c =
    let ink = λ (u v : ℕ). g.I.Ink.ink_at c.args.ink.ink.now u v in
    let lines : (u v : ℕ) → ink u v ≡ true → v < c.size-h.result.1 = λ u v e. rw c.size-h.ensures.height (g.met.I.Ink.outside c.args.ink.ink.now u v e).1 in
    let shown = λ (x k : ℕ). laid Across c.args.columns c.args.rows ink (pos x) (pos (c.args.first + k)) in
    shown_all c.args.seen c.args.op shown c.max-end.result c.span-from.result.1 _ _ (λ d l m. omega (arith, l, m, c.min.ensures, c.max-end.ensures))
    (λ d k l. c.span-from.ensures.behind _ (line_inside ink c.size-h.result.1 lines (dot_on c.args.rows (pos (c.args.first + k)))) d l)
    (shown_rows c.args.seen c.args.op _ _ _ (columns_all BAND_ROWS c.args.op (λ x k. ltb x c.max-end.result && shown x k) c.loop-x.x _ _ (λ x k a b m. from_end x c.max-end.result (shown x k) (omega (arith, a))) c.loop-x.invariant.painted))

pub returns-clause-lines : goal.returns-clause-lines
returns-clause-lines g c = grind (arith, few_pieces)

pub returns-clause-counted : goal.returns-clause-counted
returns-clause-counted g c = let some = c.loop-x.invariant.some (omega (arith, c.max-end.ensures)) in omega (arith, some, c.work.ensures)
