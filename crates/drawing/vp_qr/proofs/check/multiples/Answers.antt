use Rattle.std.proofs.Common.{ℕ, arith, ◌∙◌, length-set, replicate}
use Rattle.vp_qr.proofs.Multiples.{multiples_none, two_multiples, row_byte}
use Rattle.vp_qr.proofs.check.multiples.Goals as goal

pub loop-half-init : goal.loop-half-init
loop-half-init c = record {
  long = length-set c.args.rows.now 0 (replicate {A = ℕ} 32 0) ∙ omega arith;
  none = multiples_none c.args.n c.generator_low-low.result c.args.rows.now (omega (arith, c.requires)) c.generator_low-low.ensures (omega arith);
  made = λ g h. absurd (omega arith);
}

pub loop-half-preserved : goal.loop-half-preserved
loop-half-preserved c = grind (arith, length-set, row_byte, two_multiples)

pub returns : goal.returns
returns c = grind arith
