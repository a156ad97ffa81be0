use Rattle.std.proofs.Common.{◌≡◌, ℕ, ◌<◌, ◌≤◌, length, get_or}
use Rattle.vp_field.proofs.across.set_run.Given as goal

-- the halves before i are set
abbrev pub invariant-loop-i : goal.invariant-loop-i
invariant-loop-i l = record {
  count : length l.halves ≡ 64;
  after : l.from ≤ l.i;
  before : (j : ℕ) → j < l.from → get_or l.halves j 0 ≡ get_or l.fn.halves j 0;
  inside : (j : ℕ) → l.from ≤ j → j < l.i → get_or l.halves j 0 ≡ l.half;
  behind : (j : ℕ) → l.i ≤ j → get_or l.halves j 0 ≡ get_or l.fn.halves j 0;
}
