-- How the codewords of a symbol stand in blocks (ISO/IEC 18004, table 9), and their order (7.6).
use Rattle.std.specs.Prelude.{ℕ, zero, suc, ◌+◌, ◌-◌, ◌*◌, ◌<◌, ◌≤◌, List, [], ◌∷◌, ◌++◌, map, take, drop, slice_index, slice_index_or, nat_lt, if◌then◌else◌}
use Rattle.std.specs.List.{flat_map}
use Rattle.vp_qr.specs.declared.level.Level.{Level}
use Rattle.vp_qr.specs.declared.level.Level.TheVariants.{L, M, Q, H}
use Rattle.vp_qr.specs.declared.level.Blocks.{Blocks}
use Rattle.vp_qr.specs.Polynomial.{check_of}

-- for versions 1 to 10 of each level: check codewords of each block; short blocks, and the data codewords
-- of each; long blocks, which have one more
abbrev pub table : Level → List (ℕ × ℕ × ℕ × ℕ)
table L = (7, 1, 19, 0) ∷ (10, 1, 34, 0) ∷ (15, 1, 55, 0) ∷ (20, 1, 80, 0) ∷ (26, 1, 108, 0)
    ∷ (18, 2, 68, 0) ∷ (20, 2, 78, 0) ∷ (24, 2, 97, 0) ∷ (30, 2, 116, 0) ∷ (18, 2, 68, 2) ∷ []
table M = (10, 1, 16, 0) ∷ (16, 1, 28, 0) ∷ (26, 1, 44, 0) ∷ (18, 2, 32, 0) ∷ (24, 2, 43, 0)
    ∷ (16, 4, 27, 0) ∷ (18, 4, 31, 0) ∷ (22, 2, 38, 2) ∷ (22, 3, 36, 2) ∷ (26, 4, 43, 1) ∷ []
table Q = (13, 1, 13, 0) ∷ (22, 1, 22, 0) ∷ (18, 2, 17, 0) ∷ (26, 2, 24, 0) ∷ (18, 2, 15, 2)
    ∷ (24, 4, 19, 0) ∷ (18, 2, 14, 4) ∷ (22, 4, 18, 2) ∷ (20, 4, 16, 4) ∷ (24, 6, 19, 2) ∷ []
table H = (17, 1, 9, 0) ∷ (28, 1, 16, 0) ∷ (22, 2, 13, 0) ∷ (16, 4, 9, 0) ∷ (22, 2, 11, 2) ∷ (28, 4, 15, 0)
    ∷ (26, 4, 13, 1) ∷ (26, 4, 14, 2) ∷ (24, 4, 12, 4) ∷ (28, 6, 15, 2) ∷ []

abbrev pub in_table : List (ℕ × ℕ × ℕ × ℕ) → ℕ → Blocks
in_table rows version =
    let r = slice_index_or rows (version - 1) (0, 0, 0, 0) in
    record { check = r.0; short = r.1; words = r.2; long = r.3 }

unfoldable pub blocks_of : Level → ℕ → Blocks
blocks_of level version = in_table (table level) version

-- how many data codewords there are
abbrev pub words_of : Blocks → ℕ
words_of b = b.short * b.words + b.long * (b.words + 1)

abbrev pub capacity : Level → ℕ → ℕ
capacity level version = words_of (blocks_of level version)

-- codewords in all, of versions 1 to 10 (table 9), and the zero bits that follow them (table 1)
abbrev pub total : ℕ → ℕ
total version = slice_index (26 ∷ 44 ∷ 70 ∷ 100 ∷ 134 ∷ 172 ∷ 196 ∷ 242 ∷ 292 ∷ 346 ∷ []) (version - 1)

abbrev pub remainder_bits : ℕ → ℕ
remainder_bits version = slice_index (0 ∷ 7 ∷ 7 ∷ 7 ∷ 7 ∷ 7 ∷ 0 ∷ 0 ∷ 0 ∷ 0 ∷ []) (version - 1)

-- how many codewords there are in all
abbrev pub codewords_of : Blocks → ℕ
codewords_of b = b.short * (b.words + b.check) + b.long * (b.words + 1 + b.check)

-- no block is empty, nor larger than the largest
pub record IsSound (b : Blocks) : Type 0 where
  pub check_some : 0 < b.check
  pub check_most : b.check ≤ 30
  pub words_some : 0 < b.words
  pub words_most : b.words ≤ 116
  pub long_most : 0 < b.long → b.words < 116
  pub blocks_some : 0 < b.short
  pub blocks_most : b.short + b.long ≤ 8
  pub data_most : words_of b ≤ 274
  pub all_most : codewords_of b ≤ 346

-- the first n pieces of k codewords each
unfoldable pub pieces : ℕ → ℕ → List ℕ → List (List ℕ)
pieces zero k words = []
pieces (suc n) k words = take k words ∷ pieces n k (drop k words)

-- data codewords in blocks, the short ones first
unfoldable pub data_blocks : Blocks → List ℕ → List (List ℕ)
data_blocks b words = pieces b.short b.words words
    ++ pieces b.long (b.words + 1) (drop (b.short * b.words) words)

-- codeword number k of each block that has one
unfoldable pub column : ℕ → List (List ℕ) → List ℕ
column k blocks = flat_map (λ block. take 1 (drop k block)) blocks

-- codewords number k of each block, number k + 1 and so on, n of them
unfoldable pub columns : ℕ → ℕ → List (List ℕ) → List ℕ
columns k zero blocks = []
columns k (suc n) blocks = column k blocks ++ columns (k + 1) n blocks

-- the first data codeword of each block, the second of each, and so on; then the check codewords likewise
unfoldable pub interleaved : Blocks → List ℕ → List ℕ
interleaved b words =
    let blocks = data_blocks b words in
    columns 0 (b.words + 1) blocks ++ columns 0 b.check (map (λ block. check_of block b.check) blocks)

-- where a block's data codewords begin among those of all, and how many they are
abbrev pub block_start : Blocks → ℕ → ℕ
block_start b i = i * b.words + (i - b.short)

abbrev pub block_length : Blocks → ℕ → ℕ
block_length b i = if nat_lt i b.short then b.words else b.words + 1
