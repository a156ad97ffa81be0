use Rattle.std.proofs.Common.{◌∙◌, ℕ, rules}
use Rattle.std.proofs.lemmas.List.FromFn.{fill_by_all}
use Rattle.vp_inflate.specs.Tables.{fixed_distance}
use Rattle.vp_inflate.proofs.table.fixed_distance.Goals as goal

pub returns : goal.returns
unfolding fixed_distance
returns c = c.of.ensures ∙ fill_by_all (λ (k : ℕ). 5) c.loop-symbol.lengths 32 0 c.loop-symbol.invariant.0 (search rules)
