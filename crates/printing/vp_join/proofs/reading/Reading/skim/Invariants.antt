use Rattle.std.proofs.Common.{◌≤◌, ◌-◌, List, ◌++◌, ℕ, length, take}
use Rattle.vp_join.specs.Standing.{Stands, HasRead, IsWide}
use Rattle.vp_join.proofs.reading.Reading.skim.Given as goal

abbrev pub invariant-pieces : goal.invariant-pieces
invariant-pieces l = record {
  stands : (b r : List ℕ) → Stands l.fn.self b r → HasRead l.self (b ++ take l.at l.bytes) r;
  within : l.at ≤ length l.bytes;
  wide : IsWide l.self.phase;
}

abbrev pub decreases-pieces : goal.decreases-pieces
decreases-pieces l = length l.bytes - l.at
