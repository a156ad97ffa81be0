use Rattle.std.proofs.Common.{ℕ, ◌-◌, ◌<◌, arith}
use Rattle.vp_qr.proofs.PairRows.{bits_behind}
use Rattle.vp_qr.proofs.walk.behind.Goals as goal

pub returns-clause-bits : goal.returns-clause-bits
returns-clause-bits c = λ (x : ℕ) (h : x < c.args.ahead.left - c.args.n). bits_behind c.args.ahead.word c.args.n c.args.ahead.left x (omega arith) c.requires.most h
