-- Boxes with round corners (ZPL II, ^GB with rounding). Lengths are in sixteenths of a dot, so that a radius,
-- which is so many eighths of half the shorter side, is a whole number.
use Rattle.std.specs.Prelude.{◌≡◌, ℕ, ◌<◌, true, ◌+◌, ◌-◌, ◌*◌, Bool, not, nat_lt, nat_le, ◌&&◌, min}
use Rattle.std.proofs.lemmas.Bool.{and_parts, ltb-true}
use Rattle.vp_shapes.specs.Ellipses.{square}
use Rattle.vp_shapes.specs.Sides.{mirrored}

-- the radius of the corners
abbrev pub radius : ℕ → ℕ → ℕ → ℕ
radius w h rounding = rounding * min w h

-- how far the centre of dot x, from the nearer end, lies outside of the arc's centre
abbrev pub beyond : ℕ → ℕ → ℕ → ℕ
beyond r length x = r - (16 * mirrored length x + 8)

-- the square of the distance of a dot's centre from the nearest place between the arcs' centres
abbrev pub distance : ℕ → ℕ → ℕ → ℕ → ℕ → ℕ
distance w h r x y = square (beyond r w x) + square (beyond r h y)

-- it lies within the inner edge, t dots from the outer one and about the same centres, and not on it: where the
-- radius isn't above t dots the corners are square
abbrev pub in_hollow : ℕ → ℕ → ℕ → ℕ → ℕ → ℕ → Bool
in_hollow w h t r x y = nat_le t (mirrored w x) && (nat_le t (mirrored h y)
    && nat_le (distance w h r x y) (square (r - 16 * t) - 1))

-- dot (x, y) of a box of w by h dots whose line is t dots thick
unfoldable pub rounded_dot : ℕ → ℕ → ℕ → ℕ → ℕ → ℕ → Bool
rounded_dot w h t rounding x y = nat_lt x w && (nat_lt y h
    && (nat_le (distance w h (radius w h rounding) x y) (square (radius w h rounding))
    && not (in_hollow w h t (radius w h rounding) x y)))

-- there is no ink outside
pub no_ink_outside : (w h t rounding x y : ℕ) → rounded_dot w h t rounding x y ≡ true → (x < w) × (y < h)
unfolding rounded_dot
no_ink_outside w h t rounding x y e =
    let p = and_parts _ _ e in
    let q = and_parts _ _ p.1 in
    (ltb-true x w p.0, ltb-true y h q.0)
