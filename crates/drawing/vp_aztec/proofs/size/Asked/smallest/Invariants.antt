use Rattle.std.proofs.Common.{◌≡◌, ◌-◌}
use Rattle.vp_aztec.specs.Sizes.{fits, first_from}
use Rattle.vp_aztec.proofs.size.Asked.smallest.Given as goal

abbrev pub invariant-loop-k : goal.invariant-loop-k
invariant-loop-k l = first_from (fits l.self l.bits) l.k (36 - l.k) ≡ first_from (fits l.self l.bits) 0 36
