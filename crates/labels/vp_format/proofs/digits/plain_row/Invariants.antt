use Rattle.std.proofs.Common.{◌≡◌, ℕ, ◌+◌, ◌-◌, ◌*◌, ◌<◌, ◌≤◌, length, get_or}
use Rattle.vp_format.specs.Codes.{code_of}
use Rattle.vp_format.specs.Cursors.{digit_value}
use Rattle.vp_format.proofs.digits.plain_row.Given as goal

-- the bytes so far are put together
abbrev pub invariant-loop-i : goal.invariant-loop-i
invariant-loop-i l = record {
  len : length l.row ≡ length l.fn.row;
  inside : l.i ≤ length l.fn.row;
  digits : (k : ℕ) → k < 2 * l.i → digit_value (code_of (get_or l.bytes (l.at + k) 0)) < 16;
  packed : (k : ℕ) → k < l.i → get_or l.row k 0 ≡ digit_value (code_of (get_or l.bytes (l.at + 2 * k) 0)) * 16 + digit_value (code_of (get_or l.bytes (l.at + (2 * k + 1)) 0));
  kept : l.i ≡ 0 → l.row ≡ l.fn.row;
}

abbrev pub decreases-loop-i : goal.decreases-loop-i
decreases-loop-i l = length l.row - l.i

abbrev pub invariant-loop-i-2 : goal.invariant-loop-i-2
invariant-loop-i-2 l = record {
  len : length l.row ≡ length l.fn.row;
  inside : l.i ≤ length l.fn.row;
  digits : (k : ℕ) → k < 2 * l.i → digit_value (code_of (get_or l.bytes (l.at + k) 0)) < 16;
  packed : (k : ℕ) → k < l.i → get_or l.row k 0 ≡ digit_value (code_of (get_or l.bytes (l.at + 2 * k) 0)) * 16 + digit_value (code_of (get_or l.bytes (l.at + (2 * k + 1)) 0));
  kept : l.i ≡ 0 → l.row ≡ l.fn.row;
}

abbrev pub decreases-loop-i-2 : goal.decreases-loop-i-2
decreases-loop-i-2 l = length l.row - l.i
