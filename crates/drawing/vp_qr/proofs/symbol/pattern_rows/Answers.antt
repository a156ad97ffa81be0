use Rattle.std.proofs.Common.{ℕ, ◌<◌, ap, ◌∙◌, arith, length-set}
use Rattle.vp_qr.specs.Places.{size}
use Rattle.vp_qr.specs.Codes.{version_code}
use Rattle.vp_qr.specs.Symbol.{pattern_dark}
use Rattle.vp_qr.proofs.FreeModules.{row_made}
use Rattle.vp_qr.proofs.symbol.pattern_rows.Goals as goal

pub loop-row-preserved : goal.loop-row-preserved
loop-row-preserved c = (
  length-set c.loop-row.rows c.loop-row.row c.pattern_line.result ∙ c.loop-row.invariant.0,
  row_made (λ (i j : ℕ). pattern_dark c.args.version (version_code c.args.version) i j) c.loop-row.rows c.loop-row.row c.pattern_line.result (size c.args.version) (omega arith)
      (λ (j : ℕ) (h : j < size c.args.version). c.pattern_line.ensures j h ∙ ap (λ k. pattern_dark c.args.version k c.loop-row.row j) c.version_code-code.ensures) c.loop-row.invariant.1,
)
