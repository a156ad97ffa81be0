use Rattle.std.proofs.Common.{rules, ℕ, ap, sym, ◌∙◌, refl, arith}
use Rattle.std.proofs.lemmas.List.{length-replicate}
use Rattle.vp_page.specs.declared.page.TheConstants.{PAPER_BYTES}
use Rattle.vp_dots.specs.Images.{row_of}
use Rattle.vp_strips.specs.declared.strip.Dots.{Dots}
use Rattle.vp_strips.specs.Jobs.{dot_in}
use Rattle.vp_strips.proofs.Bitmaps.{dot_white}
use Rattle.vp_strips.proofs.strip.Dots.write_row.Goals as goal
use Rattle.vp_strips.proofs.strip.Dots.write_row.Goals.{in-White, in-Raster}
use Rattle.vp_strips.specs.Canvases.{canvas_of}

pub returns-in-Line : goal.returns-in-Line
returns-in-Line g c = c.write_line_row.ensures ∙ ap (λ (k : Dots). row_of PAPER_BYTES (λ x. dot_in k (canvas_of c.args.canvas.now) x c.args.y)) (sym c.in-Line.is)

pub returns : goal.returns
returns g c = elim c.match-self.branch [
  | in-White w ↦ c.dots_decide.ensures.row PAPER_BYTES (λ x. dot_in c.args.self (canvas_of c.args.canvas.now) x c.args.y) (rw w.row-is (length-replicate {A = ℕ} PAPER_BYTES 0))
      (λ d h. rw (w.row-is, w.in-White.is) (dot_white PAPER_BYTES d (omega arith)))
  | in-Raster w ↦ c.dots_decide.ensures.row PAPER_BYTES (λ x. dot_in c.args.self (canvas_of c.args.canvas.now) x c.args.y) (rw w.row-is (search rules))
      (λ d h. rw (w.row-is, w.in-Raster.is) refl)
]

pub returns-in-Drawn : goal.returns-in-Drawn
returns-in-Drawn g c = c.write_row.ensures ∙ ap (λ (k : Dots). row_of PAPER_BYTES (λ x. dot_in k (canvas_of c.args.canvas.now) x c.args.y)) (sym c.in-Drawn.is)
