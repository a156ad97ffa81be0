use mir.Val.{SFits}
use Rattle.std.proofs.Common.{rules, ◌≡◌, ℕ, ◌+◌, refl, ap, ◌∙◌, length, replicate, w64}
use Rattle.std.proofs.lemmas.List.{length-replicate}
use Rattle.std.proofs.lemmas.Int.{to_z-of_z}
use Rattle.vp_page.specs.declared.page.TheConstants.{PAPER_BYTES}
use Rattle.vp_strips.specs.Rows.{clipped}
use Rattle.vp_strips.proofs.Rows.{row_clipped, moved_dot}
use Rattle.vp_strips.proofs.strip.write_ink.Goals as goal

pub returns : goal.returns
returns g c =
    let left = c.args.left in
    let f = λ (x : ℕ). g.I.Ink.ink_at c.args.ink.now x c.args.y in
    let long : length c.paint_row.new.row ≡ PAPER_BYTES = c.paint_row.ensures.length_is ∙ length-replicate {A = ℕ} PAPER_BYTES 0 in
    let fits : SFits w64 c.from.result = search rules in
    c.dots_decide.ensures.row PAPER_BYTES (clipped left c.args.length f) (c.fill_dots.ensures.length_is ∙ long)
    (row_clipped left c.args.length _ f c.paint_row.new.row c.fill_dots.new.row
    (ap (λ k. k + c.from-3.result) c.from-2.ensures ∙ ap (λ k. left + k) c.from-3.ensures) long
    (moved_dot PAPER_BYTES left _ f (replicate PAPER_BYTES 0) c.paint_row.new.row refl (to_z-of_z w64 c.from.result fits ∙ c.from.ensures) c.paint_row.ensures)
    c.fill_dots.ensures)
