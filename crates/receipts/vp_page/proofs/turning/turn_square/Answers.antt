use Rattle.std.proofs.Common.{[], get_or}
use Rattle.vp_dots.specs.declared.Op.TheVariants.{Black}
use Rattle.vp_dots.proofs.Paints.{painted_none}
use Rattle.vp_page.specs.declared.page.TheConstants.{PAGE_ROWS}
use Rattle.vp_page.proofs.Rows.{rows_same}
use Rattle.vp_page.proofs.SquaresTurned.{turned_square, white_square}
use Rattle.vp_page.proofs.turning.turn_square.Goals as goal

pub returns-then-is_white : goal.returns-then-is_white
returns-then-is_white g c = record {
  rows_are = λ y h. painted_none Black _ (get_or c.args.upright.now y [])
      (λ x l. white_square c.args.turned.now c.square-square.result c.args.column c.args.row c.square-square.ensures (c.is_white.ensures c.if-is_white.true) x y);
}

pub returns : goal.returns
returns g c = rows_same PAGE_ROWS Black _ _ _ _
    (λ x y h l. turned_square c.args.turned.now c.square-square.result c.args.column c.args.row c.square-square.ensures c.turned_square.result c.turned_square.ensures x y) c.lay_square.ensures
