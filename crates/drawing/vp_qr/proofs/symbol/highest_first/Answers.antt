use Rattle.std.proofs.Common.{ℕ, ◌-◌, ◌<◌, arith}
use Rattle.std.proofs.lemmas.Nat.Bits.{shr_and_one}
use Rattle.vp_qr.specs.Penalty.{is_set}
use Rattle.vp_qr.proofs.FreeModules.{made_none, made_all}
use Rattle.vp_qr.proofs.FormatAcross.{made_bit}
use Rattle.vp_qr.proofs.symbol.highest_first.Goals as goal

pub loop-at-init : goal.loop-at-init
loop-at-init c = made_none (λ j. is_set c.args.format (14 - j))

pub loop-at-preserved : goal.loop-at-preserved
loop-at-preserved c = grind (arith, made_bit, shr_and_one)

pub returns : goal.returns
returns c = λ (j : ℕ) (h : j < 15). made_all (λ j. is_set c.args.format (14 - j)) c.loop-at.bits c.loop-at.at c.loop-at.invariant j (omega arith) (omega arith)
