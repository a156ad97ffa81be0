-- A row that is being painted from the left.
use Rattle.std.specs.Prelude.{◌≡◌, ℕ, ◌+◌, ◌-◌, ◌≤◌, Bool, not, nat_lt, ◌&&◌, List, [], ◌∷◌, ◌++◌, ℤ, ◌<◌, min}
use Rattle.std.specs.Prelude.{pos, negsuc}
use Rattle.vp_dots.specs.Dots.{shifted}
use Rattle.vp_dots.specs.Painting.{Painted}
use Rattle.vp_dots.specs.declared.Op.{Op}
use Rattle.vp_bars.specs.declared.pen.Pen.{Pen}
use Rattle.vp_bars.specs.Widths.{total, in_bar}

-- of the places of f those left of x are painted, and from x on f is g
pub record Drawn (op : Op) (at : ℤ) (f : ℕ → Bool) (old new : List ℕ) (x : ℕ) (g : ℕ → Bool) : Type 0 where
  pub done : Painted op (shifted at (λ i. nat_lt i x && f i)) old new
  pub left : (i : ℕ) → x ≤ i → f i ≡ g (i - x)

-- whether a bar comes behind bars and spaces in turn, one for each width, the first one being a bar or not
abbrev pub turned : Bool → List ℕ → Bool
turned bar [] = bar
turned bar (w ∷ ws) = turned (not bar) ws

-- bars and spaces of these widths are drawn, from one place of the pen to another
pub record Draws (op : Op) (at : ℤ) (before after : List ℕ) (pen next : Pen) (ws : List ℕ) : Type 0 where
  pub ends : next.x ≡ pen.x + total ws
  pub drawn : (f : ℕ → Bool) (old rest : List ℕ) → Drawn op at f old before pen.x
      (in_bar pen.bar (ws ++ rest)) → Drawn op at f old after next.x (in_bar next.bar rest)

-- how many of so many dots of a row lie left of a place
abbrev pub reach : ℤ → ℕ → ℕ → ℕ
reach (pos at) dots x = min dots (at + x)
reach (negsuc at) dots x = min dots (x - (at + 1))

-- so many pieces were handed out between two places: no more than the row has dots there, and one at least
-- where it has any
pub record HandedOut (at : ℤ) (dots from to pieces : ℕ) : Type 0 where
  pub few : pieces + reach at dots from ≤ reach at dots to
  pub some : reach at dots from < reach at dots to → 0 < pieces
