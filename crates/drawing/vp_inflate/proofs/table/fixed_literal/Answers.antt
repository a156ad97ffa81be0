use Rattle.std.proofs.Common.{◌∙◌, ℕ, rules}
use Rattle.std.proofs.lemmas.List.FromFn.{fill_by_all}
use Rattle.vp_inflate.specs.Tables.{fixed_bits, fixed_literal}
use Rattle.vp_inflate.proofs.table.fixed_literal.Goals as goal

pub returns : goal.returns
unfolding fixed_literal
returns c = c.of.ensures ∙ fill_by_all (λ (k : ℕ). fixed_bits k) c.loop-symbol.lengths 288 0 c.loop-symbol.invariant.0 (search rules)
