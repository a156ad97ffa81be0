use Rattle.std.proofs.Common.{◌-◌, ◌*◌, ◌/◌, ◌||◌, ◌&&◌, Bool, ltb, ◌∙◌, ap, sym}
use Rattle.std.proofs.lemmas.Bool.{and_parts}
use Rattle.vp_glyph.specs.Parts.{filled_dot}
use Rattle.vp_glyph.proofs.Parts.{parts_dot}
use Rattle.vp_strips.proofs.Magnified.{part_placed}
use Rattle.vp_strips.proofs.OwnRows.{own_over}
use Rattle.vp_strips.proofs.paint.paint_styled.Goals as goal

pub returns : goal.returns
returns g c =
    let cell = c.args.cell.now in
    let filled = c.filled-filled.result in
    own_over c.args.same.now _ _ _ _ _ _
    (λ x k.
    let u = x - c.args.at in
    let v = k - c.args.top in
    let rows = c.rows.ensures (u / cell.style.wm) (v / cell.style.hm) in
    part_placed c.args.at c.args.top filled.left filled.wide filled.top filled.high x k _ _ (filled_dot cell.font cell.style u v) _
    (λ e. (and_parts _ _ (and_parts _ _ (sym rows ∙ (and_parts _ _ e).1)).0).1)
    (c.filled-filled.ensures.dots u v)
    (ap (λ (b : Bool). ltb u (12 * cell.style.wm) && b || filled_dot cell.font cell.style u v) rows
    ∙ parts_dot cell.sheets.now cell.font cell.style cell.character u v c.requires.some))
    (rw (c.from-at.ensures, c.from-wm.ensures, c.from-hm.ensures, c.height-high.ensures) at c.paint_dots.ensures) (rw c.from-at.ensures at c.blacken.ensures)
