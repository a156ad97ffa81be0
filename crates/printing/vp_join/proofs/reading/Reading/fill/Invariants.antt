use Rattle.std.proofs.Common.{◌≡◌, ◌≤◌, ◌-◌, ◌+◌, List, ◌++◌, ℕ, length, take}
use Rattle.vp_join.specs.Standing.{Stands, IsCounted, IsWide}
use Rattle.vp_join.proofs.reading.Reading.fill.Given as goal

abbrev pub invariant-pieces : goal.invariant-pieces
invariant-pieces l = record {
  stands : (b r : List ℕ) → Stands l.fn.self b r → Stands l.self (b ++ take l.at l.bytes) (r ++ take l.n l.rows);
  counted : (m : ℕ) → IsCounted l.fn.self m → IsCounted l.self (m + l.n);
  within : l.at ≤ length l.bytes;
  room : l.n ≤ l.at;
  same_length : length l.rows ≡ length l.fn.rows;
  wide : IsWide l.self.phase;
}

abbrev pub decreases-pieces : goal.decreases-pieces
decreases-pieces l = length l.bytes - l.at
