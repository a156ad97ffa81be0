use Rattle.std.proofs.Common.{◌≡◌, ℕ, ◌+◌, ◌-◌, ltb, ◌&&◌, arith, ap, ◌∙◌, sym, pos}
use Rattle.vp_field.specs.Axes.{dot_on, laid}
use Rattle.vp_field.specs.declared.axis.Lines.TheVariants.{Across}
use Rattle.vp_field.proofs.Columns.{columns_alike, before_end}
use Rattle.vp_field.proofs.OnWhite.{dot_white}
use Rattle.vp_field.proofs.across.paint_columns.Goals as goal

pub draw_on-requires : goal.draw_on-requires
draw_on-requires g c = (omega arith, (omega arith, (c.requires.near, (omega arith, ((λ p h. dot_white 4 p (omega (arith, h))), (omega (arith, c.requires.count), c.requires.within))))))

pub returns-then-shown-ge-RUN-clause-painted : goal.returns-then-shown-ge-RUN-clause-painted
returns-then-shown-ge-RUN-clause-painted g c =
    let dots = λ (d k : ℕ). laid Across c.args.columns c.args.rows (λ (u v : ℕ). g.I.Ink.ink_at c.args.pen.now.ink.now u v) (pos d) (pos (c.args.first + k)) in
    columns_alike c.args.op (λ d k. ltb d c.args.end && dots d k) c.draw_on.new.line c.args.x c.shown-shown.result.places _ _
    (λ d k h a b.
    let there : c.args.x + (d - c.args.x) ≡ d = omega arith in
    c.draw_on.ensures.dots k (omega arith) ∙ sym (c.shown-shown.ensures.line (d - c.args.x) (omega arith) (dot_on c.args.rows (pos (c.args.first + k))))
    ∙ ap (λ n. dots n k) there ∙ sym (before_end d c.args.end (dots d k) (omega (arith, b, c.shown-shown.ensures.within)))) c.paint_run.ensures

-- the columns end in the first square
pub returns-then-end-x-le-COLUMNS-clause-painted : goal.returns-then-end-x-le-COLUMNS-clause-painted
returns-then-end-x-le-COLUMNS-clause-painted g c =
    c.paint_narrow.ensures (λ d k. ltb d c.args.end && laid Across c.args.columns c.args.rows (λ u v. g.I.Ink.ink_at c.args.pen.now.ink.now u v) (pos d) (pos (c.args.first + k)))
    (λ i k l h m. c.halves_of-left.ensures.dots i k l h)

pub returns-clause-painted : goal.returns-clause-painted
returns-clause-painted g c =
    c.paint_square.ensures (λ d k. ltb d c.args.end && laid Across c.args.columns c.args.rows (λ u v. g.I.Ink.ink_at c.args.pen.now.ink.now u v) (pos d) (pos (c.args.first + k)))
    (λ i k l h m. c.halves_of-left.ensures.dots i k l h) (λ i k l h m. (rw c.halves_of-left.ensures.ink at c.halves_of-right.ensures.dots) i k l h)

pub returns-clause-ink : goal.returns-clause-ink
returns-clause-ink g c = c.halves_of-right.ensures.ink ∙ c.halves_of-left.ensures.ink
