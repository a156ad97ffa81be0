use Rattle.std.proofs.Common.{◌≡◌, ℕ, ◌-◌, ◌<◌, ◌≤◌, ◌^◌, ◌⊎◌, get_or}
use Rattle.vp_field.proofs.plain.mixed_halves.Given as goal

-- the halves so far are counted
abbrev pub invariant-loop-i : goal.invariant-loop-i
invariant-loop-i l = record {
  few : l.many ≤ l.i;
  plain : l.many ≡ 0 → (j : ℕ) → j < l.i → (get_or l.halves j 0 ≡ 0) ⊎ (get_or l.halves j 0 ≡ 2 ^ 32 - 1);
}
