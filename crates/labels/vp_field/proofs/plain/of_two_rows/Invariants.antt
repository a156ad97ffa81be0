use Rattle.std.proofs.Common.{◌≡◌, ℕ, ◌≤◌, ◌<◌, length, get_or}
use Rattle.vp_field.proofs.plain.of_two_rows.Given as goal

-- the lower rows before y are set
abbrev pub invariant-loop-y : goal.invariant-loop-y
invariant-loop-y l = record {
  count : length l.square ≡ 64;
  after : 32 ≤ l.y;
  upper : (k : ℕ) → k < 32 → get_or l.square k 0 ≡ l.upper;
  lower : (k : ℕ) → 32 ≤ k → k < l.y → get_or l.square k 0 ≡ l.lower;
}
