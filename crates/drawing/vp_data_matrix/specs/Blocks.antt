-- How the codewords of a symbol stand in blocks, and their order (ISO/IEC 16022, 5.7 and table 7).
use Rattle.std.specs.Prelude.{ℕ, zero, suc, ◌+◌, ◌-◌, ◌*◌, ◌/◌, ◌%◌, length, List, [], ◌∷◌, ◌++◌, slice_index}
use Rattle.vp_reed_solomon.specs.declared.field.Field.TheVariants.{Gf256}
use Rattle.vp_reed_solomon.specs.Polynomials.{generator, check_of}
use Rattle.vp_data_matrix.specs.declared.size.Size.{Size}

-- n of the words, number `at` first and each so many behind the one before
abbrev pub every : List ℕ → ℕ → ℕ → ℕ → List ℕ
every words at step zero = []
every words at step (suc n) = slice_index words at ∷ every words (at + step) step n

-- how many data codewords block b has: codeword number p is of block p mod blocks
abbrev pub block_length : ℕ → ℕ → ℕ → ℕ
block_length words blocks b = (words + blocks - 1 - b) / blocks

abbrev pub block_of : Size → List ℕ → ℕ → List ℕ
block_of s words b = every words b s.blocks (block_length (length words) s.blocks b)

-- the check codewords of block b: the generator's roots are the powers from 1 on (5.7.1)
unfoldable pub block_check : Size → List ℕ → ℕ → List ℕ
block_check s words b = check_of Gf256 (generator Gf256 1 s.check) s.check (block_of s words b)

-- check codeword number k of a symbol: it too is of the block of its place among all codewords
abbrev pub check_word : Size → List ℕ → ℕ → ℕ
check_word s words k = slice_index (block_check s words ((length words + k) % s.blocks)) (k / s.blocks)

-- the first n of them
abbrev pub check_words : Size → List ℕ → ℕ → List ℕ
check_words s words zero = []
check_words s words (suc n) = check_words s words n ++ check_word s words n ∷ []

-- data and check
unfoldable pub codewords : Size → List ℕ → List ℕ
codewords s words = words ++ check_words s words (s.check * s.blocks)
