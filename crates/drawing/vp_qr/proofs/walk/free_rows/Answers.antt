use Rattle.std.proofs.Common.{ℕ, not, ◌∙◌, arith, length-set}
use Rattle.vp_qr.specs.Places.{size, reserved}
use Rattle.vp_qr.proofs.FreeModules.{row_made}
use Rattle.vp_qr.proofs.walk.free_rows.Goals as goal

pub loop-i-preserved : goal.loop-i-preserved
loop-i-preserved c = (
  length-set c.loop-i.rows c.loop-i.i c.free_line.result ∙ c.loop-i.invariant.0,
  row_made (λ (i j : ℕ). not (reserved c.args.version i j)) c.loop-i.rows c.loop-i.i c.free_line.result (size c.args.version) (omega arith) c.free_line.ensures c.loop-i.invariant.1,
)
