-- A symbol as ink, at 8 dots a millimetre: hexagons seven dots apart, in rows six dots apart, and three
-- rings.
use Rattle.std.specs.Prelude.{◌≡◌, ℕ, ◌+◌, ◌-◌, ◌*◌, ◌/◌, ◌%◌, ◌==◌, ◌<◌, ◌&&◌, ◌||◌, nat_le, nat_lt, Bool, true}
use Rattle.std.proofs.lemmas.Bool.{and_parts, ltb-true}
use Rattle.vp_maxicode.specs.Modules.{MaxiCodeSymbol, dark}

-- dots in a row and in a column
abbrev pub wide : ℕ
wide = 210

abbrev pub high : ℕ
high = 199

-- how far two numbers are from each other
abbrev pub far : ℕ → ℕ → ℕ
far a b = (a - b) + (b - a)

-- a dot of a box of six by seven dots has its centre in the hexagon in its middle, which stands on a
-- corner: the hexagon's sides are 20/7 dots from its centre, and 12/7 stands for the root of three. In half
-- dots, the dot is u beside the centre and v above or below it
abbrev pub in_hexagon : ℕ → ℕ → Bool
in_hexagon x y =
    let u = far (2 * x + 1) 6 in
    let v = far (2 * y + 1) 7 in
    nat_le (7 * u) 40 && nat_le (7 * u + 12 * v) 80

-- a dot lies in the hexagon of a dark module in a row: each second row is three dots further to the right
unfoldable pub in_module : MaxiCodeSymbol → ℕ → ℕ → ℕ → Bool
in_module s row x y =
    let left = 3 * (row % 2) in
    nat_le left x && (in_hexagon ((x - left) % 7) (y - 6 * row) && dark s row ((x - left) / 7))

-- a dot lies in a row of six lines from its own first one, or in the last line of the row above
unfoldable pub in_modules : MaxiCodeSymbol → ℕ → ℕ → Bool
in_modules s x y = in_module s (y / 6) x y || (y % 6 == 0 && (nat_le 6 y && in_module s (y / 6 - 1) x y))

-- four times the square of the distance from the finder's centre
abbrev pub square : ℕ → ℕ → ℕ
square x y = 4 * (far x 104 * far x 104 + far y 99 * far y 99)

-- between two circles of such diameters in dots
abbrev pub between : ℕ → ℕ → ℕ → Bool
between inner outer q = nat_lt (inner * inner) q && nat_le q (outer * outer)

-- the finder: three rings, whose diameters grow by 11 dots from 8 to 63, nine hexagons
unfoldable pub in_rings : ℕ → ℕ → Bool
in_rings x y =
    let q = square x y in
    between 8 19 q || (between 30 41 q || between 52 63 q)

-- the dot in column x of line y has ink
abbrev pub ink_of : MaxiCodeSymbol → ℕ → ℕ → Bool
ink_of s x y = nat_lt x wide && nat_lt y high && (in_rings x y || in_modules s x y)

-- there is none outside
pub no_ink_outside : (s : MaxiCodeSymbol) (x y : ℕ) → ink_of s x y ≡ true → (x < wide) × (y < high)
no_ink_outside s x y h =
    let parts = and_parts _ _ (and_parts _ _ h).0 in
    (ltb-true _ _ parts.0, ltb-true _ _ parts.1)
