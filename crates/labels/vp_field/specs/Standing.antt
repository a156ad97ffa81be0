-- Ink that stands turned on a label.
use Rattle.std.specs.Prelude.{ℕ, ◌^◌, ℤ, pos, neg_ℤ, ◌-ℤ◌, ◌≤ℤ◌, Bool}
use Rattle.vp_zpl.specs.declared.item.Orientation.{Orientation}
use Rattle.vp_field.specs.Turning.{turned}

-- the ink of a box of w by h at a place of the label, where the upper left corner of the turned box stands
-- at (left, top)
abbrev pub standing : ℤ → ℤ → Orientation → ℕ → ℕ → (ℕ → ℕ → Bool) → ℤ → ℤ → Bool
standing left top o w h ink x y = turned o w h ink (x -ℤ left) (y -ℤ top)

-- a corner no farther off than any parameter or any size of a box can bring it
pub record IsNear (left top : ℤ) : Type 0 where
  pub left_low : neg_ℤ (pos (2 ^ 32)) ≤ℤ left
  pub left_high : left ≤ℤ pos (2 ^ 32)
  pub top_low : neg_ℤ (pos (2 ^ 32)) ≤ℤ top
  pub top_high : top ≤ℤ pos (2 ^ 32)
