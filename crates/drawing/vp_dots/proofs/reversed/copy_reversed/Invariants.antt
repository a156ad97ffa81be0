use Rattle.std.proofs.Common.{◌≡◌, ℕ, ◌+◌, ◌-◌, ◌<◌, ◌≤◌, length, get_or}
use Rattle.vp_dots.specs.Dots.{bit}
use Rattle.vp_dots.proofs.reversed.copy_reversed.Given as goal

-- the last j bytes are written
abbrev pub invariant-loop-j : goal.invariant-loop-j
invariant-loop-j l = record {
  len : length l.line ≡ length l.row;
  done : (i b : ℕ) → i < length l.row → length l.row ≤ i + l.j → b < 8 → bit (get_or l.line i 0) b ≡ bit (get_or l.row (length l.row - 1 - i) 0) (7 - b);
}
