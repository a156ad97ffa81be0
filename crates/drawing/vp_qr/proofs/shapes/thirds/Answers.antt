use Rattle.std.proofs.Common.{ℕ, ◌<◌}
use Rattle.vp_qr.proofs.ShapeLines.{thirds_are}
use Rattle.vp_qr.proofs.shapes.thirds.Goals as goal

pub returns : goal.returns
returns c = λ (j : ℕ) (h : j < 6). thirds_are c.args.bits j h
