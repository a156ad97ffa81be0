-- Field blocks: a text broken into lines, as ^FB has it.
use Rattle.std.specs.Prelude.{◌≡◌, ◌<◌, ℕ, zero, suc, ◌+◌, ◌-◌, ◌*◌, ◌/◌, ℤ, pos, negsuc, min, max, Bool, true, false, ◌==◌, nat_lt, nat_le, ◌&&◌, ◌||◌, List, [], ◌∷◌, ◌++◌, ◌⊎◌, length, take, drop, slice_index, flat_map, Option, if◌then◌else◌}
use Rattle.std.proofs.lemmas.Bool.{and_parts, ltb-true}
use Prim.Native.Char.{code}
use Rattle.vp_glyph.specs.Sheets.{Glyphs}
use Rattle.vp_glyph.specs.Texts.{text_dot}
use Rattle.vp_glyph.specs.declared.lines.Piece.{Piece}
use Rattle.vp_glyph.specs.declared.lines.Piece.TheVariants.{Cell, ParagraphEnd}
use Rattle.vp_glyph.specs.declared.block.Alignment.{Alignment}
use Rattle.vp_glyph.specs.declared.block.Alignment.TheVariants.{Left, Centre, Right}

-- \& ends a paragraph, \\ is one backslash, and any other byte is a cell
abbrev pub pieces : List ℕ → List Piece
pieces [] = []
pieces (b ∷ []) = Cell b ∷ []
pieces (b ∷ next ∷ text) =
    if b == code "\\" && next == code "&" then ParagraphEnd ∷ pieces text
    else (if b == code "\\" && next == code "\\" then Cell (code "\\") ∷ pieces text
    else Cell b ∷ pieces (next ∷ text))

-- the cells of the first paragraph
abbrev pub first : List Piece → List ℕ
first [] = []
first (ParagraphEnd ∷ rest) = []
first (Cell b ∷ rest) = b ∷ first rest

-- the cells of each paragraph behind the first
abbrev pub others : List Piece → List (List ℕ)
others [] = []
others (ParagraphEnd ∷ rest) = first rest ∷ others rest
others (Cell b ∷ rest) = others rest

-- the cells of each paragraph, one more than there are ends of paragraphs
abbrev pub paragraphs : List Piece → List (List ℕ)
paragraphs text = first text ∷ others text

-- the greatest q of 1 to n where cell q, counted from 0, is a blank, or 0
abbrev pub last_blank : ℕ → List ℕ → ℕ
last_blank zero cells = 0
last_blank (suc q) cells = if slice_index cells (suc q) == 0x20 then suc q else last_blank q cells

-- how many of more than n cells stand in a line: those before the last blank, or n
abbrev pub line_length : ℕ → List ℕ → ℕ
line_length n cells = if last_blank n cells == 0 then n else last_blank n cells

-- the cells behind that line: the blank is dropped
abbrev pub behind_line : ℕ → List ℕ → List ℕ
behind_line n cells = if last_blank n cells == 0 then drop n cells else drop (last_blank n cells + 1) cells

-- a paragraph in lines of at most n cells. A last line that is empty stands only where it is the first, and
-- there are no more lines than `most`, the paragraph's cells, or one
abbrev pub lines_upto : ℕ → ℕ → List ℕ → List (List ℕ)
lines_upto zero n cells = cells ∷ []
lines_upto (suc most) n cells =
    if nat_le (length cells) n then cells ∷ []
    else take (line_length n cells) cells ∷ (if length (behind_line n cells) == 0 then []
    else lines_upto most n (behind_line n cells))

abbrev pub lines : ℕ → List ℕ → List (List ℕ)
lines n cells = lines_upto (length cells) n cells

-- lines that stand in a paragraph one after the other, with at most one blank left out behind each
abbrev pub StandIn : List ℕ → List (List ℕ) → Type 0
StandIn cells [] = cells ≡ []
StandIn cells (line ∷ rest) = (behind : List ℕ) × ((cells ≡ line ++ behind) ⊎ (cells ≡ line ++ 32 ∷ behind))
    × StandIn behind rest

-- the lines of a text, of at most n cells
unfoldable pub block_lines : ℕ → List ℕ → List (List ℕ)
block_lines n text = flat_map (lines n) (paragraphs (pieces text))

-- the lines of a text and their cells, each once, are no more: a line takes a byte or is the last, and a cell
-- takes a byte
abbrev pub block_pieces : List ℕ → ℕ
block_pieces text = 2 * length text + 1

-- as many, by what is told in the text
abbrev pub line_pieces : List ℕ → ℕ
line_pieces text = 2 * length (pieces text) + 1

-- the rows from the top of a line of `h` rows to that of the next, with this number of rows between them, or
-- fewer than none
abbrev pub pitch : ℕ → ℤ → ℕ
pitch h (pos c) = h + c
pitch h (negsuc c) = h - (c + 1)

-- how far a line is moved to the right in a block that has `room` dots beside it
abbrev pub indent : Alignment → ℕ → ℕ
indent Left room = 0
indent Centre room = room / 2
indent Right room = room

-- a block of a dots and b lines
abbrev pub block_width : ℕ → ℕ → ℕ
block_width a w = max a w

abbrev pub block_height : ℕ → ℕ → ℕ → ℕ
block_height h b s = h + (b - 1) * s

-- how a text is laid in a block of lines: the sheet of its cells and their width and height, the width of a
-- line and how many lines there are, from the top of one to that of the next, and where they stand in it
pub record BlockLayout : Type 0 where
  pub sheet : Option Glyphs
  pub w : ℕ
  pub h : ℕ
  pub wide : ℕ
  pub rows : ℕ
  pub pitch : ℕ
  pub alignment : Alignment

-- dot (x, y) of a line that stands `place` lines below the first
abbrev pub line_dot : BlockLayout → ℕ → List ℕ → ℕ → ℕ → Bool
line_dot b place line x y =
    let left = indent b.alignment (b.wide - b.w * length line) in
    nat_le left x && nat_le (place * b.pitch) y
    && text_dot b.sheet line b.w b.h (x - left) (y - place * b.pitch)

-- dot (x, y) of some lines one below the other; those past the last of the block stand over it
abbrev pub lines_dot : BlockLayout → ℕ → List (List ℕ) → ℕ → ℕ → Bool
lines_dot b place [] x y = false
lines_dot b place (line ∷ rest) x y =
    line_dot b place line x y || lines_dot b (min (place + 1) (b.rows - 1)) rest x y

-- dot (x, y) of a block; one that is less wide than a cell has none
unfoldable pub block_dot : BlockLayout → List ℕ → ℕ → ℕ → Bool
block_dot b text x y = nat_lt x (block_width b.wide b.w) && nat_lt y (block_height b.h b.rows b.pitch)
    && nat_le b.w b.wide && lines_dot b 0 (block_lines (b.wide / b.w) text) x y

-- there is no ink outside
pub block_inside : (b : BlockLayout) (text : List ℕ) (x y : ℕ) → block_dot b text x y ≡ true
    → (x < block_width b.wide b.w) × (y < block_height b.h b.rows b.pitch)
unfolding block_dot
block_inside b text x y e =
    let p = and_parts _ _ e in
    let o = and_parts _ _ p.0 in
    let q = and_parts _ _ o.0 in
    (ltb-true x (block_width b.wide b.w) q.0, ltb-true y (block_height b.h b.rows b.pitch) q.1)
