use Rattle.std.proofs.Common.{sym, arith, ◌<◌, ltb, ap, ◌∙◌}
use Rattle.vp_dots.proofs.Cuts.{first_bits, all_bits}
use Rattle.vp_dots.proofs.word.first_dots.Goals as goal

pub returns-then-n-eq64 : goal.returns-then-n-eq64
returns-then-n-eq64 c x = all_bits x ∙ ap (λ n. ltb x n) (sym c.if-n-eq64.true)

pub returns-else-n-eq64 : goal.returns-else-n-eq64
returns-else-n-eq64 c x = let low : c.args.n < 64 = omega (arith, c.if-n-eq64.false) in first_bits c.args.n x low
