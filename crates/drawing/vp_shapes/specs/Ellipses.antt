-- Ellipses and circles (ZPL II, ^GE, ^GC).
use Rattle.std.specs.Prelude.{◌≡◌, ℕ, ◌<◌, true, ◌+◌, ◌-◌, ◌*◌, Bool, not, nat_lt, nat_le, ◌&&◌}
use Rattle.std.proofs.lemmas.Bool.{and_parts, ltb-true}

abbrev pub square : ℕ → ℕ
square n = n * n

-- how far the centre of dot x is from the middle of so many dots, in half dots
abbrev pub from_middle : ℕ → ℕ → ℕ
from_middle length x = (2 * x + 1 - length) + (length - (2 * x + 1))

-- the centre of dot (x, y) lies in the ellipse of w by h dots about the middle of the box, or on its edge:
-- (X / w)^2 + (Y / h)^2 <= 1
abbrev pub in_ellipse : ℕ → ℕ → ℕ → ℕ → Bool
in_ellipse w h x y = nat_le (square (from_middle w x * h) + square (from_middle h y * w)) (square (w * h))

-- it lies within the inner edge, the ellipse that is t dots less on each side, and not on it
abbrev pub in_hole : ℕ → ℕ → ℕ → ℕ → ℕ → Bool
in_hole w h t x y = nat_lt (2 * t) w && (nat_lt (2 * t) h
    && nat_lt (square (from_middle w x * (h - 2 * t)) + square (from_middle h y * (w - 2 * t)))
    (square ((w - 2 * t) * (h - 2 * t))))

-- dot (x, y) of an ellipse in a box of w by h dots whose line is t dots thick
unfoldable pub ring_dot : ℕ → ℕ → ℕ → ℕ → ℕ → Bool
ring_dot w h t x y = nat_lt x w && (nat_lt y h && (in_ellipse w h x y && not (in_hole w h t x y)))

-- there is no ink outside
pub no_ink_outside : (w h t x y : ℕ) → ring_dot w h t x y ≡ true → (x < w) × (y < h)
unfolding ring_dot
no_ink_outside w h t x y e =
    let p = and_parts _ _ e in
    let q = and_parts _ _ p.1 in
    (ltb-true x w p.0, ltb-true y h q.0)
