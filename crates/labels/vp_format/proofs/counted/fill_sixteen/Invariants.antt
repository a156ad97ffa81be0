use Rattle.std.proofs.Common.{◌≡◌, ℕ, ◌+◌, ◌-◌, ◌≤◌, List, length}
use Rattle.vp_format.specs.Codes.{Spelled}
use Rattle.vp_format.specs.Cursors.{added, symbols_from, Put, Reached}
use Rattle.vp_format.proofs.counted.fill_sixteen.Given as goal

-- the codes so far are put into the places
abbrev pub invariant-loop-k : goal.invariant-loop-k
invariant-loop-k l = record {
  len : length l.places ≡ length l.fn.places;
  inside : l.k ≤ 16;
  place : l.x ≡ l.from + added l.bytes l.at l.k;
  put : (width : ℕ) (all : List Spelled) (start : ℕ) → Reached width all start l.fn.places l.from (symbols_from l.bytes l.at) l.at → Put width all start l.places l.from l.bytes l.at l.k;
}

abbrev pub decreases-loop-k : goal.decreases-loop-k
decreases-loop-k l = 16 - l.k
