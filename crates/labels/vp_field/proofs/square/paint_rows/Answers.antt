use Rattle.std.proofs.Common.{◌≡◌, ap, ◌∙◌, arith, pos, w64, to_z}
use Rattle.std.proofs.lemmas.Int.{ints}
use Rattle.vp_dots.specs.Words.{word_dot}
use Rattle.vp_field.proofs.Columns.{columns_words}
use Rattle.vp_field.proofs.square.paint_rows.Goals as goal

pub returns : goal.returns
returns g c = λ ink e.
    let there : to_z w64 c.args.x ≡ pos c.args.x = omega (arith, ints, c.requires.x) in
    columns_words c.args.op ink c.args.x _ _ _ _ there (λ i k l h m. ap (λ w. word_dot w i) (c.rows_along-along.ensures k h) ∙ e i k l h m) c.paint_words.ensures
