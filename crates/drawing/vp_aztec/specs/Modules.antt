-- The modules of a finished symbol (ISO/IEC 24778, symbol structure).
use Rattle.std.specs.Prelude.{ℕ, ◌+◌, ◌-◌, ◌*◌, ◌/◌, ◌%◌, ◌==◌, ◌&&◌, nat_le, nat_lt, max, Bool, false, List, slice_index, if◌then◌else◌}
use Rattle.std.specs.Int.{bit_at}
use Rattle.vp_aztec.specs.declared.size.Size.{Size}
use Rattle.vp_aztec.specs.Sizes.{word_bits, capacity}
use Rattle.vp_aztec.specs.Places.{core, side, centre, far, on_grid, ring_place, place_of}

-- bit k of words of w bits each, the highest bit of each first
unfoldable pub bit_of : ℕ → List ℕ → ℕ → Bool
bit_of w words k = bit_at (slice_index words (k / w)) (w - 1 - k % w) == 1

-- bit k of the layers: zeros, so that the codewords end with the last module, and the codewords
unfoldable pub data_bit : Size → List ℕ → ℕ → Bool
data_bit s words k =
    let w = word_bits s.layers in
    if nat_lt k (capacity s % w) then false else bit_of w words (k - capacity s % w)

-- bit p of a side of the mode message; on a full symbol the grid goes through its middle
abbrev pub said_place : Size → ℕ → ℕ → ℕ
said_place s k p = if s.compact then 7 * k + (p - 2) else 10 * k + (p - 2 - (p - 2) / 6)

-- module p of side k of the ring: orientation marks at the corners, three dark modules at the first, two at
-- the second and one before the third, and the mode message between them
unfoldable pub ring_module : Size → List ℕ → ℕ → ℕ → Bool
ring_module s mode k p =
    if nat_le p 1 then nat_lt k 2
    else if p == 2 * core s - 1 then k % 2 == 1
    else bit_of 4 mode (said_place s k p)

-- whether a module of the symbol is dark: the rings of the finder, of which each second one is, the grid, of
-- which each second module is, the ring around the finder, and the layers
unfoldable pub module_of : Size → List ℕ → List ℕ → ℕ → ℕ → Bool
module_of s words mode x y =
    let c = centre s in
    let ring = max (far x c) (far y c) in
    let place = ring_place c (core s) x y in
    if nat_lt ring (core s) then ring % 2 == 0
    else if on_grid s x y then (far x c + far y c) % 2 == 0
    else if ring == core s then ring_module s mode (place / (2 * core s)) (place % (2 * core s))
    else data_bit s words (place_of s x y)

-- and that it is on the symbol
abbrev pub dark : Size → List ℕ → List ℕ → ℕ → ℕ → Bool
dark s words mode x y = nat_lt x (side s) && (nat_lt y (side s) && module_of s words mode x y)
