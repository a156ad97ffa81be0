-- Lines of a block that no other line meets.
use Rattle.std.specs.Prelude.{◌≡◌, ℕ, ◌+◌, ◌-◌, ◌*◌, ◌≤◌, ◌⊎◌}

-- of b lines of h rows that stand s rows apart, some begin at row `top`, or could, and no other has one of
-- their rows
pub record IsAlone (h b s top : ℕ) : Type 0 where
  pub inside : top ≤ (b - 1) * s
  pub others : (p : ℕ) → p ≤ b - 1 → (p * s ≡ top) ⊎ ((p * s + h ≤ top) ⊎ (top + h ≤ p * s))
