use Rattle.std.proofs.Common.{arith, ◌∙◌}
use Rattle.vp_closing.specs.Rows.{image}
use Rattle.vp_closing.proofs.Rows.{drawn, white_behind}
use Rattle.vp_closing.proofs.modules.draw_row.Goals as goal

pub returns : goal.returns
returns c =
    let m = c.args.matrix.now in
    let s = c.scaled.ensures in
    let dots = drawn m c.scaled.result.symbol.now c.scaled.result.wide c.scaled.result.high c.args.y c.args.row.now c.paint_row.new.row s.symbol s.wide s.high c.requires.white c.paint_row.ensures in
    let long = c.paint_row.ensures.length_is in
    c.dots_decide.ensures.image (image m) c.args.y (long ∙ c.requires.bytes) (λ x l. dots x (omega (arith, l, c.requires.bytes)))
    (λ x l. white_behind m c.args.y c.args.row.now c.paint_row.new.row long dots x l)
