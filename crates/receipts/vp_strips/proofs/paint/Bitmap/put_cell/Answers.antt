use Rattle.std.proofs.Common.{◌≡◌, ◌-◌, arith}
use Rattle.vp_glyph.specs.Cells.{cell_dot, cell_height, cell_width}
use Rattle.vp_receipt_settings.specs.declared.text.TheConstants.{LINE_ROWS}
use Rattle.vp_strips.proofs.SameRows.{dots_more}
use Rattle.vp_strips.proofs.paint.Bitmap.put_cell.Goals as goal

pub invariant_of-self : goal.invariant_of-self
invariant_of-self g c =
    let high : LINE_ROWS - (LINE_ROWS - c.size-high.result.1) ≡ c.size-high.result.1 = omega (arith, c.size-high.ensures.height, c.requires) in
    (rw (c.max-self-inside.ensures, ← high) c.paint_character.ensures.clear, c.paint_character.ensures.none)

pub returns : goal.returns
returns g c = λ line has.
    let cell = c.args.cell.now in
    dots_more line c.args.at (cell_width cell.font cell.style) (cell_height cell.font cell.style) (cell_dot cell.sheets.now cell.font cell.style cell.character) _ _
    (rw c.size-high.ensures.height at c.paint_character.ensures.painted) (rw (← c.self.view_is) at has)
