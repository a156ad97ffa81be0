use Rattle.std.proofs.Common.{◌≡◌, ℕ, ◌+◌, ◌-◌, ◌<◌, true, refl, sym, ap, ◌∙◌, arith, rules, pos, w64}
use mir.Val.{SFits}
use Rattle.std.proofs.lemmas.Int.{to_z-of_z}
use Rattle.vp_dots.specs.Dots.{shifted}
use Rattle.vp_glyph.specs.Blocks.{block_dot, block_height, block_inside}
use Rattle.vp_glyph.specs.Layouts.{layout_of}
use Rattle.vp_label_size.specs.declared.TheConstants.{WIDEST}
use Rattle.vp_field.specs.Axes.{laid, dot_on, read_at}
use Rattle.vp_field.specs.Places.{at_place}
use Rattle.vp_field.specs.declared.axis.Lines.TheVariants.{Along}
use Rattle.vp_field.proofs.Places.{at_true, line_inside}
use Rattle.vp_field.proofs.Windowed.{read_within}
use Rattle.vp_field.proofs.field.paint_block_at_once.Goals as goal

pub returns-clause-dots : goal.returns-clause-dots
returns-clause-dots g c = rw c.new-drawn.ensures.rows at c.paint_standing.ensures.dots

pub returns-clause-counted : goal.returns-clause-counted
returns-clause-counted g c = λ x k low e.
    omega (arith, ((rw c.new-drawn.ensures.rows at c.paint_standing.ensures.counted) x k low e))

-- the line that shows a dot was drawn, and is painted
pub returns-clause-drawn : goal.returns-clause-drawn
returns-clause-drawn g c = λ x k l m e.
    let b = c.args.rows.block in
    let y = c.laid-laid.result in
    let ink = λ (u v : ℕ). block_dot (layout_of b) b.text.now u v in
    let along : y.lines ≡ Along = c.laid-laid.ensures.lines ∙ c.requires.lines in
    let here : laid Along y.columns y.rows ink (pos x) (pos (c.args.first + k)) ≡ true = (rw along at (c.laid-laid.ensures.ink ink (pos x) (pos (c.args.first + k)))) ∙ e in
    let t = at_true (λ v. at_place (λ u. ink u v) (dot_on y.columns (pos x))) (dot_on y.rows (pos (c.args.first + k))) here in
    let v = t.0 in
    let inside : v < block_height b.h b.rows b.pitch = line_inside ink (block_height b.h b.rows b.pitch) (λ u v i. (block_inside (layout_of b) b.text.now u v i).1) (dot_on y.columns (pos x)) v t.1 in
    let low = c.first_line-top.ensures.along along k v m (omega (arith, inside, c.size-height.ensures.height)) t.2 in
    let high = c.first_line-top.ensures.near along k v m (omega (arith, inside, c.size-height.ensures.height)) t.2 in
    let row : c.first_line-top.result + (v - c.first_line-top.result) ≡ v = omega (arith, low) in
    let fits : SFits w64 c.drawn_at.result = search rules in
    let place = read_at y.columns WIDEST x in
    let near = read_within y.columns WIDEST x l in
    let begun : 0 + x ≡ x = omega arith in
    let black : shifted c.drawn_at.result (λ u. ink u v) place ≡ true = sym (c.drawn_at.ensures.dots (λ u. ink u v) (shifted c.drawn_at.result (λ u. ink u v)) (λ d l. refl) x l) ∙ ap (λ n. at_place (λ u. ink u v) (dot_on y.columns (pos n))) begun ∙ t.1 in
    let drew = (rw (to_z-of_z w64 c.drawn_at.result fits) at c.new-drawn.ensures.some) (v - c.first_line-top.result) place (omega (arith, high, low)) (omega (arith, near)) (omega (arith, row, inside)) (ap (λ n. shifted c.drawn_at.result (λ u. ink u n) place) row ∙ black) in
    omega (arith, c.pieces.ensures, drew, ((rw c.new-drawn.ensures.rows at c.paint_standing.ensures.counted) x k m e))
