use Rattle.std.proofs.Common.{◌∙◌, sym, arith}
use Rattle.std.proofs.lemmas.Option.{none-some}
use Rattle.vp_field.proofs.Pictured.{row_painted, row_unseen}
use Rattle.vp_field.proofs.picture.paint_row_of.Goals as goal

pub returns-in-Some : goal.returns-in-Some
returns-in-Some g c =
    let a = c.args in
    let found = c.row_of.ensures in
    row_painted a.op a.at.columns a.at.rows a.first a.row.now.y c.in-Some.k a.row.now.bytes.now a.band.now c.paint_line-one.new.row (let high = rw c.in-Some.is at found.high in omega (arith, high, c.row_mut.ensures.rows)) (rw c.in-Some.is at found.on) (λ j h e. sym c.in-Some.is ∙ found.only j h e)
    (rw c.row_mut.ensures.value at c.paint_line-one.ensures.painted)

pub returns-in_default : goal.returns-in_default
returns-in_default g c = grind (arith, row_unseen, none-some)
