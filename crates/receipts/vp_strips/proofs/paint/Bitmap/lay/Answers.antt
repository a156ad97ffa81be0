use Rattle.std.proofs.Common.{◌≡◌, ◌-◌, ◌+◌, ◌<◌, ◌∙◌, ap, sym, subst, List, ℕ, [], ◌∷◌, get_or, length, arith}
use Rattle.std.proofs.lemmas.List.{ext_get_or}
use Rattle.vp_page.proofs.Shown.{length-shown}
use Rattle.vp_page.specs.Layers.{Laid, lines_mark}
use Rattle.vp_page.specs.Lines.{shown_lines}
use Rattle.vp_page.specs.Pages.{HasPage}
use Rattle.vp_receipt_settings.specs.declared.text.TheConstants.{LINE_ROWS}
use Rattle.vp_strips.proofs.SameRows.{lent_lines, many_rows, shown_long}
use Rattle.vp_strips.proofs.paint.Bitmap.lay.Goals as goal

pub invariant_of-self : goal.invariant_of-self
invariant_of-self g c = (c.part_row.ensures.clear c.self.inside.used c.self.invariant.0, λ e y. grind (arith, c.part_row.ensures.kept y, c.self.invariant.1 e y))

pub returns-clause-kept : goal.returns-clause-kept
returns-clause-kept g c =
    ext_get_or [] (shown_lines c.part_row.new.same c.part_row.new.band) (shown_lines c.self.inside.same c.self.inside.band)
    (length-shown c.part_row.new.same c.part_row.new.band ∙ c.part_row.ensures.len ∙ sym (length-shown c.self.inside.same c.self.inside.band)) (λ z h. c.part_row.ensures.shows z)
    ∙ c.self.view_is

pub returns-clause-rows : goal.returns-clause-rows
returns-clause-rows g c = rw (← c.self.view_is) (many_rows _ (shown_long c.self.inside.same c.self.inside.band c.self.invariant.0.rows_are))

pub returns-clause-laid : goal.returns-clause-laid
returns-clause-laid g c = λ lines long are layers page.
    let top = LINE_ROWS - c.args.high in
    let same = c.part_row.new.same in
    let band = c.part_row.new.band in
    let clear = c.part_row.ensures.clear c.self.inside.used c.self.invariant.0 in
    let lent = c.rows.result.now in
    let told = c.told_from-told.result.now in
    let count : length (shown_lines told lent) ≡ c.args.high = length-shown told lent ∙ omega (arith, c.rows.ensures.len, c.requires) in
    let shown : shown_lines told lent ≡ lines = ext_get_or [] (shown_lines told lent) lines (count ∙ sym long) (λ i h.
    let few : i < c.args.high = omega (arith, h, count) in
    rw c.told_from-told.ensures (lent_lines top c.self.inside.told same band lent (omega arith) (many_rows band clear.rows_are) c.part_row.ensures.parted
    (λ e y. grind (arith, c.part_row.ensures.kept y, c.self.invariant.1 e y)) c.rows.ensures.len c.rows.ensures.rows i (omega (arith, few, c.requires)))
    ∙ c.part_row.ensures.shows (top + i) ∙ ap (λ (rows : List (List ℕ)). get_or rows (top + i) []) c.self.view_is ∙ sym (are i few)) in
    subst (λ lines. HasPage (Laid (lines_mark c.args.area c.args.direction c.args.v lines) ∷ layers) c.lay_lines.new.self) shown (c.lay_lines.ensures layers page)
