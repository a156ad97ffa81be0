use Rattle.std.proofs.Common.{◌+◌, ◌-◌, leb, ◌&&◌}
use Rattle.vp_glyph.specs.Cells.{cell_dot}
use Rattle.vp_bars.specs.Drawing.{Drawn}
use Rattle.vp_bars.proofs.bar_box.paint_cell_dots.Given as goal

-- the dots so far
abbrev pub invariant-loop-x : goal.invariant-loop-x
invariant-loop-x g l = Drawn l.op l.fn.at (λ i. leb l.left i && cell_dot l.cell.sheets.now l.cell.font l.cell.style l.cell.character (i - l.left) l.y) l.fn.row l.row (l.left + l.x)
    (λ j. cell_dot l.cell.sheets.now l.cell.font l.cell.style l.cell.character (l.x + j) l.y)
