use Rattle.std.proofs.Common.{◌≡◌, ◌≤◌, ◌+◌, ◌-◌, ◌++◌, length, take, drop}
use Rattle.vp_packed.specs.Kept.{spelled}
use Rattle.vp_packed.proofs.spelling.spell.Given as goal

abbrev pub invariant-loop-at : goal.invariant-loop-at
invariant-loop-at l = record {
  bytes : spelled l.fn.first (drop l.from l.signs) ≡ take l.n l.out ++ spelled l.group (drop l.at l.signs);
  len : length l.out ≡ length l.fn.out;
  within : l.n ≤ length l.out;
  on : l.from + l.n ≤ l.at;
  place : l.at ≤ length l.signs;
}

abbrev pub decreases-loop-at : goal.decreases-loop-at
decreases-loop-at l = length l.signs - l.at
