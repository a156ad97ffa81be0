use Rattle.std.proofs.Common.{◌≡◌, ◌≤◌, ◌<◌, ◌+◌, ◌-◌, ◌*◌, ap, ◌∙◌, sym, arith, w64}
use Rattle.std.proofs.lemmas.Int.{to_z-of_z}
use Rattle.vp_glyph.specs.Cells.{font_height}
use Rattle.vp_bars.specs.InBox.{boxed}
use Rattle.vp_bars.specs.Boxes.{Boxed, box_top, box_height, texts_below, box_dot, text_row, bars_row}
use Rattle.vp_dots.proofs.Shifts.{shifted_none, shifted_same}
use Rattle.vp_bars.proofs.Paints.{moved_same, moved_none}
use Rattle.vp_bars.proofs.BoxRows.{row_top, row_bars, row_below, row_none}
use Rattle.vp_bars.proofs.bar_box.BarBox.paint_pieces.Goals as goal

pub returns-then-y-top-clause-painted : goal.returns-then-y-top-clause-painted
returns-then-y-top-clause-painted g c =
    let s = c.args.self.now in
    let b : Boxed = boxed s in
    let inside : c.args.y < box_top b = omega (arith, c.top-top.ensures.rows) in
    rw (sym (to_z-of_z w64 c.args.at c.ranges.at)) (moved_same _ _ (text_row b c.args.y) (λ x. box_dot b x c.args.y) _ _ (λ u. row_top b c.args.y u inside) c.paint_text.ensures.painted)

pub returns-then-y-bottom-clause-painted : goal.returns-then-y-bottom-clause-painted
returns-then-y-bottom-clause-painted g c = grind (arith, to_z-of_z, moved_same, row_bars)

pub returns-then-y-bottom-2-clause-painted : goal.returns-then-y-bottom-2-clause-painted
returns-then-y-bottom-2-clause-painted g c =
    let s = c.args.self.now in
    let b : Boxed = boxed s in
    let under : box_top b + s.height ≤ c.args.y = omega (arith, c.top-top.ensures.rows, c.from.ensures) in
    let below : c.below.result * c.height.result ≡ texts_below s.place * font_height s.font = ap (λ t. t * c.height.result) c.below.ensures.texts ∙ ap (λ t. texts_below s.place * t) c.height.ensures in
    let over : c.args.y < box_height b = omega (arith, c.top-top.ensures.rows, c.from.ensures, below) in
    let row : c.args.y - (c.top-top.result + c.from.result) ≡ c.args.y - box_top b - s.height = omega (arith, c.top-top.ensures.rows, c.from.ensures) in
    rw (sym (to_z-of_z w64 c.args.at c.ranges.at)) (moved_same _ _ (text_row b (c.args.y - (c.top-top.result + c.from.result))) (λ x. box_dot b x c.args.y) _ _
    (λ u. ap (λ v. text_row b v u) row ∙ row_below b c.args.y u under over) c.paint_text-then-y-bottom-2.ensures.painted)

pub returns-clause-painted : goal.returns-clause-painted
returns-clause-painted g c = grind (arith, moved_none, row_none)

pub returns-then-y-top-clause-some : goal.returns-then-y-top-clause-some
returns-then-y-top-clause-some g c =
    let b : Boxed = boxed c.args.self.now in
    let inside : c.args.y < box_top b = omega (arith, c.top-top.ensures.rows) in
    rw (sym (to_z-of_z w64 c.args.at c.ranges.at)) (λ d l e. c.paint_text.ensures.some d l
    (shifted_same _ (text_row b c.args.y) (λ x. box_dot b x c.args.y) d (λ u q. row_top b c.args.y u inside) ∙ e))

pub returns-then-y-bottom-clause-some : goal.returns-then-y-bottom-clause-some
returns-then-y-bottom-clause-some g c =
    let s = c.args.self.now in
    let b : Boxed = boxed s in
    let under : box_top b ≤ c.args.y = omega (arith, c.top-top.ensures.rows) in
    let over : c.args.y < box_top b + s.height = omega (arith, c.top-top.ensures.rows, c.from.ensures) in
    rw (sym (to_z-of_z w64 c.args.at c.ranges.at)) (λ d l e. c.paint_bars.ensures.some d l
    (shifted_same _ (bars_row b) (λ x. box_dot b x c.args.y) d (λ u q. row_bars b c.args.y u under over) ∙ e))

pub returns-then-y-bottom-2-clause-some : goal.returns-then-y-bottom-2-clause-some
returns-then-y-bottom-2-clause-some g c =
    let s = c.args.self.now in
    let b : Boxed = boxed s in
    let under : box_top b + s.height ≤ c.args.y = omega (arith, c.top-top.ensures.rows, c.from.ensures) in
    let below : c.below.result * c.height.result ≡ texts_below s.place * font_height s.font = ap (λ t. t * c.height.result) c.below.ensures.texts ∙ ap (λ t. texts_below s.place * t) c.height.ensures in
    let over : c.args.y < box_height b = omega (arith, c.top-top.ensures.rows, c.from.ensures, below) in
    let row : c.args.y - (c.top-top.result + c.from.result) ≡ c.args.y - box_top b - s.height = omega (arith, c.top-top.ensures.rows, c.from.ensures) in
    rw (sym (to_z-of_z w64 c.args.at c.ranges.at)) (λ d l e. c.paint_text-then-y-bottom-2.ensures.some d l
    (shifted_same _ (text_row b (c.args.y - (c.top-top.result + c.from.result))) (λ x. box_dot b x c.args.y) d
    (λ u q. ap (λ v. text_row b v u) row ∙ row_below b c.args.y u under over) ∙ e))

pub returns-clause-some : goal.returns-clause-some
returns-clause-some g c = grind (arith, to_z-of_z, shifted_none, row_none)
