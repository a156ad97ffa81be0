use Rattle.std.proofs.Common.{◌≡◌, ℕ, ◌+◌, ◌-◌, ◌*◌, ◌<◌, ◌≤◌, length, get_or}
use Rattle.vp_format.specs.Cursors.{AreSmall}
use Rattle.vp_format.proofs.packing.pack.Given as goal

-- the bytes so far are put together
abbrev pub invariant-loop-row : goal.invariant-loop-row
invariant-loop-row l = record {
  len : length l.row ≡ length l.fn.row;
  inside : l.i ≤ length l.fn.row;
  packed : AreSmall (2 * length l.fn.row) l.places → (k : ℕ) → k < l.i → get_or l.row k 0 ≡ get_or l.places (2 * k) 0 * 16 + get_or l.places (2 * k + 1) 0;
}

abbrev pub decreases-loop-row : goal.decreases-loop-row
decreases-loop-row l = length l.row - l.i

abbrev pub invariant-loop-i : goal.invariant-loop-i
invariant-loop-i l = record {
  len : length l.row ≡ length l.fn.row;
  inside : l.i ≤ length l.fn.row;
  packed : AreSmall (2 * length l.fn.row) l.places → (k : ℕ) → k < l.i → get_or l.row k 0 ≡ get_or l.places (2 * k) 0 * 16 + get_or l.places (2 * k + 1) 0;
}

abbrev pub decreases-loop-i : goal.decreases-loop-i
decreases-loop-i l = length l.row - l.i
