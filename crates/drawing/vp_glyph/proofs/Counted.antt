-- How many lines a text has at most.
use Rattle.std.proofs.Common.{◌≡◌, ℕ, zero, suc, ◌+◌, ◌-◌, ◌*◌, ◌/◌, ◌≤◌, min, Bool, true, false, ltb, leb, ◌&&◌, ◌||◌, List, [], ◌∷◌, length, refl, ap, ◌∙◌, arith, Option}
use Rattle.std.proofs.Math.Nat.{mul-le-mul_right}
use Rattle.std.proofs.lemmas.List.{length-append}
use Rattle.std.specs.List.{flat_map}
use Rattle.vp_glyph.specs.Sheets.{Glyphs}
use Rattle.vp_glyph.specs.Blocks.{pieces, paragraphs, behind_line, lines_upto, lines, block_lines, lines_dot, block_width, block_height, block_dot}
use Rattle.vp_glyph.specs.declared.lines.Piece.{Piece}
use Rattle.vp_glyph.specs.declared.lines.Piece.TheVariants.{Cell, ParagraphEnd}
use Rattle.vp_glyph.specs.declared.block.Alignment.{Alignment}
use Rattle.vp_glyph.proofs.Layouts.{layout}
use Rattle.vp_glyph.proofs.Stacks.{line_above}

upto_many : (m n : ℕ) (cells : List ℕ) → length (lines_upto m n cells) ≤ m + 1
upto_many zero n cells = omega arith
upto_many (suc m) n cells = grind (arith, upto_many m n (behind_line n cells))

-- a place for each cell of some paragraphs, and one more for each of them
abbrev room : List (List ℕ) → ℕ
room [] = 0
room (cells ∷ rest) = length cells + 1 + room rest

flat_many : (n : ℕ) (all : List (List ℕ)) → length (flat_map (lines n) all) ≤ room all
flat_many n [] = omega arith
flat_many n (cells ∷ rest) = grind (arith, length-append, upto_many, flat_many n rest)

pieces_room : (all : List Piece) → room (paragraphs all) ≡ length all + 1
pieces_room [] = refl
pieces_room (ParagraphEnd ∷ rest) = let r = pieces_room rest in omega (arith, r)
pieces_room (Cell b ∷ rest) = let r = pieces_room rest in omega (arith, r)

pieces_few : (text : List ℕ) → length (pieces text) ≤ length text
pieces_few [] = omega arith
pieces_few (b ∷ []) = omega arith
pieces_few (b ∷ next ∷ text) = grind (arith, pieces_few text, pieces_few (next ∷ text))

-- a line for each byte, and one more
pub lines_many : (n : ℕ) (text : List ℕ) → length (block_lines n text) ≤ length text + 1
unfolding block_lines
lines_many n text =
    let f = flat_many n (paragraphs (pieces text)) in
    let r = pieces_room (pieces text) in
    let p = pieces_few text in
    omega (arith, f, r, p)

module _ (sheet : Option Glyphs) (w h a b s : ℕ) (d : Alignment) (x y : ℕ) where
  -- so many lines end above the row
  lines_above : (m place : ℕ) (all : List (List ℕ)) → place + length all ≤ m + 1 → m * s + h ≤ y → lines_dot (layout sheet w h a b s d) place all x y ≡ false
  lines_above m place [] f l = refl
  lines_above m place (line ∷ rest) f l =
      let wide : place * s ≤ m * s = mul-le-mul_right s (omega arith) in
      ap (λ t. t || lines_dot (layout sheet w h a b s d) (min (place + 1) (b - 1)) rest x y) (line_above sheet w h a b s d x y place line (omega (arith, wide, l)))
      ∙ lines_above m (min (place + 1) (b - 1)) rest (omega (arith, f)) l

  -- no line of a text stands on it
  pub block_above : (text : List ℕ) → length text * s + h ≤ y → block_dot (layout sheet w h a b s d) text x y ≡ false
  unfolding block_dot
  block_above text l =
      let none : lines_dot (layout sheet w h a b s d) 0 (block_lines (a / w) text) x y ≡ false =
      lines_above (length text) 0 (block_lines (a / w) text) (let m = lines_many (a / w) text in omega (arith, m)) l in
      ap (λ t. ltb x (block_width a w) && ltb y (block_height h b s) && leb w a && t) none
      ∙ nothing (ltb x (block_width a w)) (ltb y (block_height h b s)) (leb w a)
    where
      nothing : (p q r : Bool) → (p && q && r && false) ≡ false
      nothing true true true = refl
      nothing true true false = refl
      nothing true false r = refl
      nothing false q r = refl
