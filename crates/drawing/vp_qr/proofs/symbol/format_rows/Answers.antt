use Rattle.std.proofs.Common.{ℕ, ◌∙◌, arith, length-set}
use Rattle.vp_qr.specs.Places.{size}
use Rattle.vp_qr.specs.Symbol.{format_here}
use Rattle.vp_qr.proofs.FreeModules.{row_made}
use Rattle.vp_qr.proofs.symbol.format_rows.Goals as goal

pub loop-row-preserved : goal.loop-row-preserved
loop-row-preserved c = (
  length-set c.loop-row.rows c.loop-row.row c.format_line.result ∙ c.loop-row.invariant.0,
  row_made (λ (i j : ℕ). format_here c.args.version i j) c.loop-row.rows c.loop-row.row c.format_line.result (size c.args.version) (omega arith)
      c.format_line.ensures c.loop-row.invariant.1,
)
