use Rattle.std.proofs.Common.{rules, ◌≡◌, ◌+◌, ap, ◌∙◌, length}
use Rattle.vp_page.specs.declared.page.TheConstants.{PAPER_BYTES}
use Rattle.vp_dots.specs.Dots.{dot}
use Rattle.vp_strips.specs.Rows.{clipped}
use Rattle.vp_strips.proofs.Rows.{row_clipped}
use Rattle.vp_strips.proofs.strip.write_clipped.Goals as goal

pub returns : goal.returns
returns c =
    let left = c.args.left in
    let long : length c.write_moved.new.row ≡ PAPER_BYTES = search rules in
    c.dots_decide.ensures.row PAPER_BYTES (clipped left c.args.length (dot c.args.source.now)) (c.fill_dots.ensures.length_is ∙ long)
    (row_clipped left c.args.length _ (dot c.args.source.now) c.write_moved.new.row c.fill_dots.new.row
    (ap (λ k. k + c.from-2.result) c.from.ensures ∙ ap (λ k. left + k) c.from-2.ensures)
    long c.write_moved.ensures c.fill_dots.ensures)
