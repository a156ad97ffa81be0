use Rattle.std.proofs.Common.{◌≡◌, ◌-◌}
use Rattle.vp_data_matrix.specs.Sizes.{fits, first_from}
use Rattle.vp_data_matrix.proofs.size.Shape.smallest.Given as goal

abbrev pub invariant-loop-k : goal.invariant-loop-k
invariant-loop-k l = first_from (fits l.self l.needed) l.k (30 - l.k) ≡ first_from (fits l.self l.needed) 0 30
