use Rattle.std.proofs.Common.{ℕ, List, ap, ◌∙◌, arith}
use Rattle.std.proofs.lemmas.Bool.{lt-ltb, le-ltb}
use Rattle.std.proofs.lemmas.List.{length-replicate}
use Rattle.vp_page.specs.declared.page.TheConstants.{PAPER_BYTES}
use Rattle.vp_dots.specs.Dots.{dot}
use Rattle.vp_dots.specs.Images.{row_of}
use Rattle.vp_strips.specs.Rows.{clipped}
use Rattle.vp_strips.specs.Jobs.{line_dot_of}
use Rattle.vp_strips.proofs.Bitmaps.{dot_white}
use Rattle.vp_strips.proofs.strip.write_line_row.Goals as goal

pub returns-then-y-from : goal.returns-then-y-from
returns-then-y-from g c = rw (lt-ltb c.args.y c.args.height (rw c.from.ensures at c.if-y-from.true))
    (c.write_clipped.ensures ∙ ap (λ (r : List ℕ). row_of PAPER_BYTES (clipped c.args.left c.args.length (dot r))) c.row-source.ensures.value)

pub returns : goal.returns
returns g c = c.dots_decide.ensures.row PAPER_BYTES (λ x. line_dot_of c.args.height c.args.left c.args.length c.args.bitmap.now x c.args.y) (length-replicate {A = ℕ} PAPER_BYTES 0)
    (λ d h. rw (le-ltb c.args.y c.args.height (rw c.from.ensures at c.if-y-from.false)) (dot_white PAPER_BYTES d (omega arith)))
