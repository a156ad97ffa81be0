use Rattle.std.proofs.Common.{ℕ, ◌%◌, ◌<◌, arith}
use Rattle.vp_qr.proofs.Flips.{flips_fit, flips_are}
use Rattle.vp_qr.proofs.symbol.flips.Goals as goal

pub overflow_mul-result : goal.overflow_mul-result
overflow_mul-result c = omega (arith, flips_fit c.args.mask (c.args.row % 12) c.requires (omega arith))

pub returns : goal.returns
returns c = λ (j : ℕ) (h : j < 57). flips_are c.args.mask c.args.row j c.requires h
