-- The codewords of a symbol (ISO/IEC 16023, symbol structure and error correction).
use Rattle.std.specs.Prelude.{ℕ, zero, suc, ◌+◌, ◌-◌, ◌==◌, ◌||◌, Bool, true, false, List, [], ◌∷◌, ◌++◌, length, take, replicate, slice_index, if◌then◌else◌}
use Rattle.vp_reed_solomon.specs.declared.field.Field.TheVariants.{Gf64}
use Rattle.vp_reed_solomon.specs.Polynomials.{generator, check_of}
use Rattle.vp_maxicode.specs.declared.set.CodeSet.{CodeSet}
use Rattle.vp_maxicode.specs.declared.set.CodeSet.TheVariants.{A, B, C, D, E}
use Rattle.vp_maxicode.specs.declared.mode.Mode.{Mode}
use Rattle.vp_maxicode.specs.declared.mode.Mode.TheVariants.{Structured, Standard, Enhanced, Program}
use Rattle.vp_maxicode.specs.Primaries.{carrier_bits, ten}

-- sets A and B have a pad, 33
abbrev pub has_pad : CodeSet → Bool
has_pad A = true
has_pad B = true
has_pad C = false
has_pad D = false
has_pad E = false

-- as many codewords as there is room for: pads behind the message, and before them a latch to A, 58, where
-- the set in force hasn't any
abbrev pub filled : ℕ → List ℕ → List ℕ
filled n words = words ++ replicate (n - length words) 33

unfoldable pub padded : ℕ → CodeSet → List ℕ → List ℕ
padded n set words =
    if has_pad set || length words == n then filled n words else filled n (words ++ 58 ∷ [])

-- codewords with so many check codewords behind them: the generator's roots are the powers of 2 from 1 on
unfoldable pub checked : ℕ → List ℕ → List ℕ
checked n words = words ++ check_of Gf64 (generator Gf64 1 n) n words

-- n codewords from place i on, each second one
unfoldable pub every_second : ℕ → ℕ → List ℕ → List ℕ
every_second zero i words = []
every_second (suc n) i words = slice_index words i ∷ every_second n (i + 2) words

-- the data of the primary message: the carrier's, or the mode and the first nine codewords
abbrev pub primary : Mode → List ℕ → List ℕ
primary (Structured carrier) words = ten (carrier_bits carrier)
primary Standard words = 4 ∷ take 9 words
primary Enhanced words = 5 ∷ take 9 words
primary Program words = 6 ∷ take 9 words

-- how many of the codewords those are
abbrev pub first_in : Mode → ℕ
first_in (Structured carrier) = 0
first_in Standard = 9
first_in Enhanced = 9
first_in Program = 9

-- the data and check codewords of each of the two blocks of the secondary message
abbrev pub data_count : Mode → ℕ
data_count (Structured carrier) = 42
data_count Standard = 42
data_count Enhanced = 34
data_count Program = 42

abbrev pub check_count : Mode → ℕ
check_count mode = 62 - data_count mode

-- a block: each second codeword from the first one or from the second one on
abbrev pub block : Mode → ℕ → List ℕ → List ℕ
block mode k words = checked (check_count mode) (every_second (data_count mode) (first_in mode + k) words)
