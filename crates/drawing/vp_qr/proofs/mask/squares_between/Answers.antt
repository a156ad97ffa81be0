use Rattle.std.proofs.Common.{ℕ, ◌<◌, arith}
use Rattle.vp_qr.proofs.Squares.{squares_are}
use Rattle.vp_qr.proofs.mask.squares_between.Goals as goal

pub returns : goal.returns
returns c = λ (j : ℕ) (h : j < 64). squares_are c.args.above c.args.below j (omega arith) (omega arith) h
