use Rattle.std.proofs.Common.{ℕ, arith}
use Rattle.vp_data_matrix.proofs.Words.{base_256_short, base_256_long}
use Rattle.vp_data_matrix.proofs.base_256.base_256_length.Goals as goal

pub returns-then-n-lt250-clause-length : goal.returns-then-n-lt250-clause-length
returns-then-n-lt250-clause-length c = λ (before : ℕ). omega (arith, base_256_short before c.args.src.now (omega arith))

pub returns-else-n-lt250-clause-length : goal.returns-else-n-lt250-clause-length
returns-else-n-lt250-clause-length c = λ (before : ℕ). omega (arith, base_256_long before c.args.src.now (omega arith))
