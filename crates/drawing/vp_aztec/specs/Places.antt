-- Where modules lie (ISO/IEC 24778, symbol structure), with x from the left and y from the top.
use Rattle.std.specs.Prelude.{◌≡◌, ℕ, ◌+◌, ◌-◌, ◌*◌, ◌/◌, ◌%◌, ◌==◌, ◌&&◌, ◌||◌, nat_le, nat_lt, ◌<◌, not, min, max, Bool, false, if◌then◌else◌}
use Rattle.vp_aztec.specs.declared.size.Size.{Size}
use Rattle.vp_aztec.specs.Sizes.{capacity}

-- how far the ring with the mode message is from the centre
abbrev pub core : Size → ℕ
core s = if s.compact then 5 else 7

-- the modules of a side without those of the reference grid, and with them
abbrev pub base : Size → ℕ
base s = 4 * s.layers + (if s.compact then 11 else 14)

abbrev pub side : Size → ℕ
side s = if s.compact then base s else base s + 1 + 2 * ((base s / 2 - 1) / 15)

abbrev pub centre : Size → ℕ
centre s = side s / 2

-- how far two columns or two rows are from each other
abbrev pub far : ℕ → ℕ → ℕ
far a b = (a - b) + (b - a)

-- the grid of a full symbol: each 16th column and row from the centre
abbrev pub on_grid : Size → ℕ → ℕ → Bool
on_grid s x y = not s.compact && (far x (centre s) % 16 == 0 || far y (centre s) % 16 == 0)

-- a column or row where those of the grid are left out
unfoldable pub along : Size → ℕ → ℕ
along s x =
    let d = far x (centre s) in
    if s.compact then x
    else if nat_lt x (centre s) then base s / 2 - (d - d / 16)
    else base s / 2 + (d - d / 16) - 1

-- the number of a module of a ring so far from the centre, clockwise from the upper left corner
unfoldable pub ring_place : ℕ → ℕ → ℕ → ℕ → ℕ
ring_place c r x y =
    if y + r == c && nat_lt x (c + r) then x + r - c
    else if x == c + r && nat_lt y (c + r) then 2 * r + (y + r - c)
    else if y == c + r && nat_lt c (x + r) then 4 * r + (c + r - x)
    else 6 * r + (c + r - y)

-- the number of a bit in a layer whose sides take n bits twice, by its column and row in the layer: a layer
-- is two modules wide, and its bits go in pairs from the outer to the inner module, down the left side, along
-- the lower one, up the right side and back along the upper one
unfoldable pub in_layer : ℕ → ℕ → ℕ → ℕ
in_layer n a b =
    if nat_lt a 2 && nat_lt b n then 2 * b + a
    else if nat_lt a n && nat_le n b then 2 * n + 2 * a + (n + 1 - b)
    else if nat_le n a && nat_le 2 b then 4 * n + 2 * (n + 1 - b) + (n + 1 - a)
    else 6 * n + 2 * (n + 1 - a) + b

-- the layer of a module, the outermost one's first
abbrev pub layer_of : ℕ → ℕ → ℕ → ℕ
layer_of b u v = min (min u v) (min (b - 1 - u) (b - 1 - v)) / 2

-- the number of a module's bit, the outermost layer's first
unfoldable pub bit_place : ℕ → ℕ → ℕ → ℕ
bit_place b u v =
    let layer = layer_of b u v in
    8 * layer * (b - 2 * layer) + in_layer (b - 4 * layer - 2) (u - 2 * layer) (v - 2 * layer)

abbrev pub place_of : Size → ℕ → ℕ → ℕ
place_of s x y = bit_place (base s) (along s x) (along s y)

-- a module of the layers: outside of the ring around the finder, and not on the grid
pub record IsInLayers (s : Size) (x y : ℕ) : Type 0 where
  pub column : x < side s
  pub row : y < side s
  pub outside : core s < max (far x (centre s)) (far y (centre s))
  pub off_grid : on_grid s x y ≡ false

-- each of them has a bit of its own, of as many as the layers hold
pub record HaveBits (s : Size) : Type 0 where
  pub within : (x y : ℕ) → IsInLayers s x y → place_of s x y < capacity s
  pub own : (x y v w : ℕ) → IsInLayers s x y → IsInLayers s v w → place_of s x y ≡ place_of s v w
      → (x ≡ v) × (y ≡ w)
