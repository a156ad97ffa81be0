use Rattle.std.proofs.Common.{arith, sym, length, ◌/◌, ap, ◌∙◌, length-drop}
use Rattle.vp_glyph.specs.Blocks.{pieces, first}
use Rattle.vp_glyph.proofs.Pieces.{front_is}
use Rattle.vp_glyph.proofs.Sides.{place_past, text_past, text_at}
use Rattle.vp_glyph.proofs.block.dot_of_line.Goals as goal

pub returns-then-place-line : goal.returns-then-place-line
returns-then-place-line g c = sym (text_past c.args.sheet.now _ _ c.args.w c.args.h c.args.x c.args.y c.requires.cells (place_past c.args.w c.args.line.cells c.args.x c.if-place-line.true))

pub unreachable-requires : goal.unreachable-requires
unreachable-requires g c =
    let d = length-drop (c.args.x / c.args.w) (first (pieces c.args.line.text.now)) in
    let e = ap length (sym c.behind_cells.ensures.first ∙ c.in_default.ensures) in
    omega (arith, d, e)

pub returns : goal.returns
returns g c =
    c.ink.ensures ∙ text_at c.args.sheet.now _ c.args.line.cells c.args.w c.args.h c.args.x c.args.y c.requires.cells c.in-Some.character c.requires.w c.if-place-line.false
    (front_is (c.args.x / c.args.w) c.in-Some.character _ _ _ c.behind_cells.ensures.first c.in-Some.ensures)
