-- The sizes of symbols, and which one is taken (ISO/IEC 24778, symbol structure).
use Rattle.std.specs.Prelude.{◌≡◌, ℕ, zero, suc, ◌+◌, ◌-◌, ◌*◌, ◌/◌, ◌==◌, ◌&&◌, ◌||◌, ◌≤◌, not, nat_le, nat_lt, Bool, true, false, List, length, Option, Some, None, unwrap_or, if◌then◌else◌}
use Rattle.vp_reed_solomon.specs.declared.field.Field.{Field}
use Rattle.vp_reed_solomon.specs.declared.field.Field.TheVariants.{Gf64, Gf256, Gf1024, Gf4096}
use Rattle.vp_aztec.specs.declared.size.Size.{Size}
use Rattle.vp_aztec.specs.declared.size.Layers.{Layers}
use Rattle.vp_aztec.specs.declared.size.Layers.TheVariants.{Any, Compact, Full}
use Rattle.vp_aztec.specs.declared.size.Asked.{Asked}
use Rattle.vp_aztec.specs.Stuffing.{stuffed}

-- the bits of a codeword, by the layers, and the field
abbrev pub word_bits : ℕ → ℕ
word_bits layers =
    if nat_le layers 2 then 6 else if nat_le layers 8 then 8 else if nat_le layers 22 then 10 else 12

abbrev pub field_of : ℕ → Field
field_of layers =
    if nat_le layers 2 then Gf64
    else if nat_le layers 8 then Gf256
    else if nat_le layers 22 then Gf1024
    else Gf4096

-- how many bits the layers hold, and how many codewords
abbrev pub capacity : Size → ℕ
capacity s = s.layers * ((if s.compact then 88 else 112) + 16 * s.layers)

abbrev pub total : Size → ℕ
total s = capacity s / word_bits s.layers

-- the sizes: compact ones of 1 to 4 layers, and full ones of 1 to 32
abbrev pub size_at : ℕ → Size
size_at k =
    if nat_lt k 4 then record { compact = true; layers = k + 1 }
    else record { compact = false; layers = k - 3 }

-- a size's numbers are within these
pub record IsSound (s : Size) : Type 0 where
  pub layers : s.layers ≤ 32
  pub compact : s.compact ≡ true → s.layers ≤ 4

-- the percentage that is asked for, or 23
abbrev pub percent : Asked → ℕ
percent asked = unwrap_or asked.percent 23

-- that part of all codewords, rounded down, and three more are the fewest check codewords
abbrev pub least_check : Asked → Size → ℕ
least_check asked s = total s * percent asked / 100 + 3

-- a size is asked for
abbrev pub is_asked : Layers → Size → Bool
is_asked Any s = true
is_asked (Compact n) s = s.compact && s.layers == n
is_asked (Full n) s = not s.compact && s.layers == n

-- there is such a size
abbrev pub exist : Layers → Bool
exist Any = true
exist (Compact n) = nat_le 1 n && nat_le n 4
exist (Full n) = nat_le 1 n && nat_le n 32

-- a size that is asked for has room for bits: a compact one says at most 64 data codewords
unfoldable pub fits : Asked → List Bool → ℕ → Bool
fits asked bits k =
    let s = size_at k in
    let n = length (stuffed (word_bits s.layers) bits) in
    is_asked asked.layers s && (nat_le (n + least_check asked s) (total s) && (not s.compact || nat_le n 64))

-- the first of n numbers from k on that passes a test
abbrev pub first_from : (ℕ → Bool) → ℕ → ℕ → Option ℕ
first_from p k zero = None
first_from p k (suc n) = if p k then Some k else first_from p (k + 1) n

-- the first size that does
unfoldable pub smallest : Asked → List Bool → Option ℕ
smallest asked bits = first_from (fits asked bits) 0 36
