use Rattle.std.proofs.Common.{inl, inr, ◌≡◌, ◌+◌, ◌-◌, sym, ap, ◌∙◌, arith, get_or}
use Rattle.std.proofs.lemmas.Bool.{cases_lt}
use Rattle.vp_dots.specs.Words.{word_dot}
use Rattle.vp_label_size.specs.declared.TheConstants.{BAND_ROWS}
use Rattle.vp_field.specs.Axes.{read_at}
use Rattle.vp_field.proofs.Columns.{columns_white, columns_both}
use Rattle.vp_field.proofs.Windowed.{read_within}
use Rattle.vp_field.proofs.square.paint_square.Goals as goal

pub returns-then-are_white-2 : goal.returns-then-are_white-2
returns-then-are_white-2 g c = λ ink e f.
    columns_white c.args.op ink c.args.x 128 _
    (λ i k l h m. elim (cases_lt i 64) [
      | inl y ↦ sym (e i k y h m) ∙ c.are_white.ensures c.if-are_white.true i (read_at c.args.rows BAND_ROWS k) y
      | inr y ↦
          let there : c.args.x + 64 + (i - 64) ≡ c.args.x + i = omega arith in
          ap (λ n. ink n k) (sym there) ∙ sym (f (i - 64) k (omega arith) h (rw there m)) ∙ c.are_white-then-are_white.ensures c.if-are_white-2.true (i - 64) (read_at c.args.rows BAND_ROWS k) (omega arith)
    ])

pub returns : goal.returns
returns g c = λ ink e f.
    let left = c.paint_rows.ensures ink (λ i k l h m.
    let at = read_at c.args.rows BAND_ROWS k in
    ap (λ n. word_dot (get_or c.turned_halves-square.result n 0) i) (let z : 0 + at ≡ at = omega arith in z) ∙ c.turned_halves-square.ensures.upper i at l (read_within c.args.rows BAND_ROWS k h) ∙ e i k l h m) in
    columns_both c.args.op ink c.args.x 64 _ _ _ left
    (c.paint_rows-2.ensures ink (λ i k l h m.
    c.turned_halves-square.ensures.lower i (read_at c.args.rows BAND_ROWS k) l (read_within c.args.rows BAND_ROWS k h) ∙ f i k l h (omega (arith, m, ((left.rows_are k h).length_is)))))
