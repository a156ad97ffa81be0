use Rattle.std.proofs.Common.{arith}
use Rattle.std.proofs.lemmas.List.{length-take}
use Rattle.vp_field.proofs.counted_columns.CountedColumns.new.Goals as goal

pub invariant_of-result-clause-all : goal.invariant_of-result-clause-all
invariant_of-result-clause-all c = grind (arith, length-take)
