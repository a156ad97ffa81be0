use Rattle.std.proofs.Common.{pos, refl}
use Rattle.vp_dots.specs.declared.Op.TheVariants.{Black}
use Rattle.vp_dots.proofs.Heights.{rows_same}
use Rattle.vp_dots.proofs.Placing.{ready_placed}
use Rattle.vp_glyph.specs.Cells.{cell_dot}
use Rattle.vp_receipt_settings.specs.declared.text.TheConstants.{LINE_ROWS}
use Rattle.vp_strips.proofs.paint.paint_cell.Goals as goal

pub returns-in-Some : goal.returns-in-Some
returns-in-Some g c =
    let cell = c.args.cell.now in
    rows_same LINE_ROWS Black _ _ _ _
    (λ x k _. ready_placed (pos c.args.at) (pos c.args.top) c.args.top _ c.in-Some.field-0.above c.in-Some.field-0.words.now (cell_dot cell.sheets.now cell.font cell.style cell.character) refl c.in-Some.ensures.0 x k)
    (rw c.from.ensures at c.paint_words.ensures)
