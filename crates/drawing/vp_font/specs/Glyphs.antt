-- Letters, by their codes, and their dots.
use Rattle.std.specs.Prelude.{◌≡◌, ◌≢◌, ◌<◌, ℕ, ◌+◌, ◌*◌, ◌&&◌, nat_lt, Bool, List, length, drop, slice_index_or, true}
use Rattle.std.proofs.lemmas.Bool.{and_parts, ltb-true}
use Rattle.vp_dots.specs.Dots.{dot}
use Rattle.vp_font.specs.declared.letter.Letter.{Letter}
use Rattle.vp_font.specs.declared.letter.Shape.{Shape}
use Rattle.vp_font.specs.declared.letter.Entry.{Entry}
use Rattle.vp_font.specs.Rows.{row_bytes}
use Rattle.vp_font.specs.Fonts.{Face}

-- dot (x, y) of a box whose rows these bytes begin with: the leftmost dot of a byte is its highest bit, and
-- there is none outside the box (technical note 5005, 3.2)
unfoldable pub glyph_dot : Shape → List ℕ → ℕ → ℕ → Bool
glyph_dot shape rows x y =
    nat_lt x shape.width && (nat_lt y shape.height && dot rows (8 * row_bytes shape.width * y + x))

pub glyph_inside : (shape : Shape) (rows : List ℕ) (x y : ℕ) → glyph_dot shape rows x y ≡ true
    → (x < shape.width) × (y < shape.height)
unfolding glyph_dot
glyph_inside shape rows x y e =
    let p = and_parts _ _ e in
    let q = and_parts _ _ p.1 in
    (ltb-true x shape.width p.0, ltb-true y shape.height q.0)

-- the code of letter i
abbrev pub code_of : List Entry → ℕ → Entry → ℕ
code_of letters i other = (slice_index_or letters i other).letter.code

-- codes rise, so each stands once
abbrev pub Rising : List Entry → Type 0
Rising letters = (i j : ℕ) (other : Entry) → i < j → j < length letters
    → code_of letters i other < code_of letters j other

-- no letter has this code
abbrev pub Lacks : List Entry → ℕ → Type 0
Lacks letters code = (i : ℕ) (other : Entry) → i < length letters → code_of letters i other ≢ code

-- letter i has this code
abbrev pub HasAt : List Entry → ℕ → ℕ → Type 0
HasAt letters code i = (i < length letters) × ((other : Entry) → code_of letters i other ≡ code)

-- a letter of the font has this code: what it is, and the bytes that begin with its rows
abbrev pub Has : Face → ℕ → Letter → List ℕ → Type 0
Has face code letter rows = (i : ℕ) × HasAt face.letters code i × ((other : Entry) →
    (letter ≡ (slice_index_or face.letters i other).letter)
    × (rows ≡ drop (slice_index_or face.letters i other).from face.raster))
