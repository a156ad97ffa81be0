use Rattle.std.proofs.Common.{◌≡◌, ◌+◌, sym, ap, ◌∙◌, arith, get_or}
use Rattle.vp_dots.specs.Words.{word_dot}
use Rattle.vp_label_size.specs.declared.TheConstants.{BAND_ROWS}
use Rattle.vp_field.specs.Axes.{read_at}
use Rattle.vp_field.proofs.Columns.{columns_white}
use Rattle.vp_field.proofs.Windowed.{read_within}
use Rattle.vp_field.proofs.square.paint_narrow.Goals as goal

pub returns-then-are_white : goal.returns-then-are_white
returns-then-are_white g c = λ ink e.
    columns_white c.args.op ink c.args.x 64 _ (λ i k l h m. sym (e i k l h m) ∙ c.are_white.ensures c.if-are_white.true i (read_at c.args.rows BAND_ROWS k) l)

pub returns : goal.returns
returns g c = λ ink e.
    c.paint_rows.ensures ink (λ i k l h m.
    let at = read_at c.args.rows BAND_ROWS k in
    let r = read_within c.args.rows BAND_ROWS k h in
    ap (λ n. word_dot (get_or c.turned_square.result n 0) i) (let z : 0 + at ≡ at = omega arith in z) ∙ c.turned_square.ensures i at l (omega (arith, r)) ∙ c.square_of-square.ensures.left i at l r ∙ e i k l h m)
