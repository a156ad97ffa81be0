use Rattle.std.proofs.Common.{◌+◌, ◌-◌, ◌<◌, pos, arith}
use Rattle.vp_dots.specs.Places.{placed}
use Rattle.vp_glyph.specs.Cells.{cell_dot, cell_height}
use Rattle.vp_page.specs.Lines.{shown_lines}
use Rattle.vp_strips.proofs.SameRows.{each_shown, from_shown, painted_clear, painted_shown, placed_same, same_cell_row, shown_long}
use Rattle.vp_strips.proofs.paint.paint_character.Goals as goal

pub returns-then-from-clause-clear : goal.returns-then-from-clause-clear
returns-then-from-clause-clear g c =
    let cell = c.args.cell.now in
    painted_clear c.args.used c.args.top c.args.at (cell_dot cell.sheets.now cell.font cell.style cell.character) c.part_rows.new.same c.part_rows.new.band c.paint_styled.new.band (omega (arith, c.requires.room))
    (c.part_rows.ensures.clear c.args.used c.requires.clear) c.paint_styled.ensures

pub returns-then-from-clause-painted : goal.returns-then-from-clause-painted
returns-then-from-clause-painted g c =
    let cell = c.args.cell.now in
    let top = c.args.top in
    let p = c.part_rows in
    let ink = placed (pos c.args.at) (pos top) (cell_dot cell.sheets.now cell.font cell.style cell.character) in
    from_shown ink _ (shown_lines p.new.same p.new.band) _ p.ensures.shows
    (painted_shown p.new.same ink p.new.band c.paint_styled.new.band (p.ensures.clear c.args.used c.requires.clear).rows_are c.paint_styled.ensures (λ x e. grind (arith, p.ensures.below 0, c.requires.room))
    (λ x y h e. placed_same c.args.at top (cell_dot cell.sheets.now cell.font cell.style cell.character) x y (λ low.
    let inside : y + 1 < top + cell_height cell.font cell.style = omega (arith, h, c.requires.room) in (
      p.ensures.below (y + 1) low inside e,
      same_cell_row cell.sheets.now cell.font cell.style cell.character (x - c.args.at) (y + 1 - top) (omega (arith, low, inside)) (p.ensures.row (y + 1) low inside e) (p.ensures.underline (y + 1) low inside e),
    ))))

pub returns-clause-painted : goal.returns-clause-painted
returns-clause-painted g c =
    each_shown _ c.part_told.new.same _ c.part_told.new.band c.paint_cell.new.band c.part_told.ensures.each c.part_told.ensures.clear.rows_are (shown_long c.args.same.now c.args.band.now c.requires.clear.rows_are) c.part_told.ensures.shows c.paint_cell.ensures
