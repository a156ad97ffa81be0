use Rattle.std.proofs.Common.{◌≡◌, ℕ, ◌<◌, length, get_or}
use Rattle.vp_inflate.specs.declared.table.TheConstants.{PLACES}
use Rattle.vp_inflate.proofs.table.placed.Given as goal

abbrev pub invariant-loop-symbol : goal.invariant-loop-symbol
invariant-loop-symbol l = record {
  long : length l.lengths ≡ 19;
  done : (k : ℕ) → k < l.symbol → get_or l.lengths k 0 ≡ get_or l.came (get_or PLACES k 0) 0;
}
