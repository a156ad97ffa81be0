use Rattle.std.proofs.Common.{ℕ, get_or, rules}
use Rattle.std.proofs.lemmas.List.FromFn.{fill_by_all}
use Rattle.vp_inflate.specs.declared.table.TheConstants.{PLACES}
use Rattle.vp_inflate.specs.Tables.{placed}
use Rattle.vp_inflate.proofs.table.placed.Goals as goal

pub returns : goal.returns
unfolding placed
returns c = fill_by_all (λ (k : ℕ). get_or c.args.came.now (get_or PLACES k 0) 0) c.loop-symbol.lengths 19 0 c.loop-symbol.invariant.long (search rules)
