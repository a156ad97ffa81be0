use Rattle.std.proofs.Common.{◌≡◌, ◌*◌, ◌++◌, length, drop}
use Rattle.vp_bars.specs.Interleaved.{pairs_of}
use Rattle.vp_bars.proofs.interleaved.pairs.Given as goal

-- the pairs so far, and those of the digits that are left
abbrev pub invariant-loop-k : goal.invariant-loop-k
invariant-loop-k l = record { all : pairs_of l.digits ≡ l.values.items ++ pairs_of (drop (2 * l.k) l.digits); count : length l.values.items ≡ l.k }
