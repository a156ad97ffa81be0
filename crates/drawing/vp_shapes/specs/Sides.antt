-- Rows that are the same from both ends.
use Rattle.std.specs.Prelude.{ℕ, ◌-◌, Bool, not, nat_lt, nat_le, ◌&&◌, min}
use Rattle.vp_shapes.specs.declared.sides.Sides.{Sides}

-- how far place x is from the nearer end of so many
abbrev pub mirrored : ℕ → ℕ → ℕ
mirrored length x = min x (length - 1 - x)

-- dot x has so many dots or more on both of its sides
abbrev pub amid : ℕ → ℕ → ℕ → Bool
amid width edge x = nat_le edge x && nat_lt x (width - edge)

-- dot x of a row with ink between its outer and its inner edges
abbrev pub sides_dot : Sides → ℕ → Bool
sides_dot s x = amid s.width s.outer x && not (amid s.width s.inner x)
