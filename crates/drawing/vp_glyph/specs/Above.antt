-- Lines of a block that end above a row, and how many pieces they have.
use Rattle.std.specs.Prelude.{ℕ, zero, suc, ◌+◌, ◌-◌, ◌*◌, ◌/◌, nat_le, List, [], ◌∷◌, length, take, if◌then◌else◌}
use Rattle.vp_glyph.specs.Blocks.{BlockLayout, block_lines}

-- some lines and their cells, each once
abbrev pub pieces_of : List (List ℕ) → ℕ
pieces_of [] = 0
pieces_of (line ∷ rest) = 1 + length line + pieces_of rest

-- how many of the first n lines end above row y
abbrev pub above_of : BlockLayout → ℕ → ℕ → ℕ
above_of b zero y = 0
above_of b (suc n) y = if nat_le (n * b.pitch + b.h) y then suc n else above_of b n y

-- how many lines of a block end above row y: all that are left stand at the last place
abbrev pub lines_above : BlockLayout → ℕ → ℕ
lines_above b y = above_of b (b.rows - 1) y

-- how many pieces these lines of a text have
abbrev pub pieces_above : BlockLayout → List ℕ → ℕ → ℕ
pieces_above b text y = pieces_of (take (lines_above b y) (block_lines (b.wide / b.w) text))
