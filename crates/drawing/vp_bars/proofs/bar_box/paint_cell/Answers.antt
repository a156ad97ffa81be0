use Rattle.std.proofs.Common.{arith, ap, ◌∙◌, ◌&&◌, ◌-◌, leb, ◌+ℤ◌, pos, ◌≡◌, w64, to_z, of_z}
use Rattle.std.proofs.lemmas.Int.{to_z-of_z}
use Rattle.vp_dots.proofs.Paints.{painted_same}
use Rattle.vp_dots.proofs.Shifts.{shifted_same}
use Rattle.vp_dots.specs.Dots.{shifted}
use Rattle.vp_dots.specs.Words.{word_dot}
use Rattle.vp_glyph.proofs.Masks.{shift_more}
use Rattle.vp_bars.proofs.bar_box.paint_cell.Goals as goal

pub returns-in-Some : goal.returns-in-Some
returns-in-Some g c =
    let place : to_z w64 (of_z w64 c.in-Some.place) ≡ c.args.at +ℤ pos c.args.left = grind (arith, to_z-of_z, c.in-Some.ensures, c.from.ensures) in
    painted_same c.args.op _ _ _ _ (λ d l. ap (λ z. shifted z (word_dot c.plain_row.result) d) place ∙ shift_more c.args.at c.args.left (word_dot c.plain_row.result) d
    ∙ shifted_same c.args.at _ _ d (λ x e. ap (λ b. leb c.args.left x && b) (c.plain_row.ensures (x - c.args.left)))) c.paint_word.ensures
