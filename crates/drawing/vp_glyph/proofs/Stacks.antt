-- Lines below each other.
use Rattle.std.proofs.Common.{ℤ, ◌≡◌, ℕ, zero, suc, ◌+◌, ◌-◌, ◌*◌, ◌/◌, ◌<◌, ◌≤◌, ◌&&◌, ◌||◌, leb, min, length, List, [], ◌∷◌, take, drop, Option, None, Some, MatchOption, Bor, Bool, true, false, refl, sym, ap, ◌∙◌, arith}
use Rattle.std.proofs.lemmas.Bool.{le-ltb, lt-ltb, le-leb, lt-leb, and_parts, false_from_ne_true}
use Rattle.std.proofs.Math.Nat.{mul-le-mul_right}
use Rattle.vp_glyph.specs.Texts.{text_dot, text_inside}
use Rattle.vp_dots.specs.Dots.{shifted}
use Rattle.vp_dots.specs.Painting.{Painted}
use Rattle.vp_dots.specs.declared.Op.{Op}
use Rattle.vp_glyph.proofs.Drawn.{moved_none}
use Rattle.vp_glyph.specs.Sheets.{Glyphs}
use Rattle.vp_glyph.specs.Blocks.{pieces, first, indent, block_lines, line_dot, lines_dot, block_width, block_height, block_dot}
use Rattle.vp_glyph.proofs.Layouts.{layout}
use Rattle.vp_glyph.specs.declared.block.Alignment.{Alignment}

-- the lines of a text that may have ended
abbrev pub lines_left : ℕ → Option (Bor (List ℕ)) → List (List ℕ)
lines_left n None = []
lines_left n (Some text) = block_lines n text.now

-- a line, and those behind it
pub lines_are : (n : ℕ) (text line : List ℕ) (next : Option (Bor (List ℕ))) → MatchOption next (block_lines n text ≡ line ∷ []) (λ r. block_lines n text ≡ line ∷ block_lines n r.now) → block_lines n text ≡ line ∷ lines_left n next
lines_are n text line next h1 = grind arith

module _ (sheet : Option Glyphs) (w h a b s : ℕ) (d : Alignment) (x y : ℕ) where
  -- the line at the front of what is left has the dot
  pub front_found : (n place k : ℕ) (left next : Option (Bor (List ℕ))) (text : Bor (List ℕ)) (lent : List ℕ) (r : Bool) → left ≡ Some text → lent ≡ text.now
      → MatchOption next (block_lines n text.now ≡ take k (first (pieces text.now)) ∷ []) (λ q. block_lines n text.now ≡ take k (first (pieces text.now)) ∷ block_lines n q.now)
      → r ≡ line_dot (layout sheet w h a b s d) place (take k (first (pieces lent))) x y → r ≡ true → lines_dot (layout sheet w h a b s d) place (lines_left n left) x y ≡ true
  front_found n place k left next text lent r e m l f t = grind arith

module _ (sheet : Option Glyphs) (w h a b s : ℕ) (d : Alignment) (x y : ℕ) where
  -- a line that ends above the row
  pub line_above : (place : ℕ) (line : List ℕ) → place * s + h ≤ y → line_dot (layout sheet w h a b s d) place line x y ≡ false
  line_above place line l =
      false_from_ne_true (line_dot (layout sheet w h a b s d) place line x y)
      (λ e.
      let left : ℕ = indent d (a - w * length line) in
      let p = and_parts (leb left x && leb (place * s) y) (text_dot sheet line w h (x - left) (y - place * s)) e in
      let i = (text_inside sheet line w h (x - left) (y - place * s) p.1).1 in
      absurd (omega arith))

  -- lines that end above it are passed
  pub lines_passed : (place k : ℕ) (all : List (List ℕ)) → place + k ≤ b - 1 → (place + k - 1) * s + h ≤ y
      → lines_dot (layout sheet w h a b s d) place all x y ≡ lines_dot (layout sheet w h a b s d) (place + k) (drop k all) x y
  lines_passed place zero all m l = let e : place + 0 ≡ place = omega arith in rw e refl
  lines_passed place (suc k) [] m l = refl
  lines_passed place (suc k) (line ∷ rest) m l =
      let next : min (place + 1) (b - 1) ≡ place + 1 = omega arith in
      let same : place + 1 + k ≡ place + suc k = omega arith in
      let upto : place + 1 + k - 1 ≡ place + suc k - 1 = omega arith in
      let wide : place * s ≤ (place + suc k - 1) * s = mul-le-mul_right s (omega arith) in
      ap (λ t. t || lines_dot (layout sheet w h a b s d) (min (place + 1) (b - 1)) rest x y) (line_above place line (omega arith))
      ∙ ap (λ n. lines_dot (layout sheet w h a b s d) n rest x y) next
      ∙ lines_passed (place + 1) k rest (omega arith) (rw upto l)
      ∙ ap (λ n. lines_dot (layout sheet w h a b s d) n (drop k rest) x y) same

  -- the lines from the first that isn't passed on
  pub lines_from : (k : ℕ) (all rest : List (List ℕ)) → k ≤ b - 1 → (k - 1) * s + h ≤ y → drop k all ≡ rest
      → lines_dot (layout sheet w h a b s d) 0 all x y ≡ lines_dot (layout sheet w h a b s d) k rest x y
  lines_from k all rest m l e =
      let same : 0 + k ≡ k = omega arith in
      lines_passed 0 k all (omega arith) (rw same l) ∙ ap (λ n. lines_dot (layout sheet w h a b s d) n (drop k all) x y) same
      ∙ ap (λ (ls : List (List ℕ)). lines_dot (layout sheet w h a b s d) k ls x y) e

  -- lines that begin below the row
  pub lines_below : (place : ℕ) (all : List (List ℕ)) → place ≤ b - 1 → y < place * s → lines_dot (layout sheet w h a b s d) place all x y ≡ false
  lines_below place [] m l = refl
  lines_below place (line ∷ rest) m l =
      let left : ℕ = indent d (a - w * length line) in
      let none : line_dot (layout sheet w h a b s d) place line x y ≡ false =
      ap (λ t. leb left x && t && text_dot sheet line w h (x - left) (y - place * s)) (lt-leb (place * s) y l)
      ∙ nothing (leb left x) (text_dot sheet line w h (x - left) (y - place * s)) in
      let wide : place * s ≤ min (place + 1) (b - 1) * s = mul-le-mul_right s (omega arith) in
      ap (λ t. t || lines_dot (layout sheet w h a b s d) (min (place + 1) (b - 1)) rest x y) none
      ∙ lines_below (min (place + 1) (b - 1)) rest (omega arith) (omega arith)
    where
      nothing : (p q : Bool) → (p && false && q) ≡ false
      nothing true q = refl
      nothing false q = refl

-- behind the first of the lines that are left
pub passed_more : (n k : ℕ) (text rest line : List ℕ) (next : Option (Bor (List ℕ))) (to : Bor (List ℕ)) → drop k (block_lines n text) ≡ block_lines n rest
    → MatchOption next (block_lines n rest ≡ line ∷ []) (λ r. block_lines n rest ≡ line ∷ block_lines n r.now) → next ≡ Some to
    → drop (k + 1) (block_lines n text) ≡ block_lines n to.now
passed_more n k text rest line next to e m f =
    let more : k + 1 ≡ suc k = omega arith in
    rw more (drop-more k (block_lines n text) line (block_lines n to.now) (e ∙ (rw f at m)))
  where
    drop-more : (k : ℕ) (xs : List (List ℕ)) (x : List ℕ) (ys : List (List ℕ)) → drop k xs ≡ x ∷ ys → drop (suc k) xs ≡ ys
    drop-more zero (z ∷ zs) x ys g = cc
    drop-more zero [] x ys g = cc
    drop-more (suc k) [] x ys g = cc
    drop-more (suc k) (z ∷ zs) x ys g = drop-more k zs x ys g

module _ (sheet : Option Glyphs) (text : List ℕ) (w h a b s : ℕ) (d : Alignment) (x y : ℕ) where
  -- outside
  pub block_past : block_width a w ≤ x → false ≡ block_dot (layout sheet w h a b s d) text x y
  unfolding block_dot
  block_past l = rw (le-ltb x (block_width a w) l) refl

  pub block_below : block_height h b s ≤ y → false ≡ block_dot (layout sheet w h a b s d) text x y
  unfolding block_dot
  block_below l = grind arith

  -- less wide than a cell
  pub block_narrow : a < w → false ≡ block_dot (layout sheet w h a b s d) text x y
  unfolding block_dot
  block_narrow l = grind arith

  -- inside
  pub block_within : x < block_width a w → y < block_height h b s → w ≤ a → lines_dot (layout sheet w h a b s d) 0 (block_lines (a / w) text) x y ≡ block_dot (layout sheet w h a b s d) text x y
  unfolding block_dot
  block_within k l m = rw (lt-ltb x (block_width a w) k, lt-ltb y (block_height h b s) l, le-leb w a m) refl

-- a row that no line of a block has
pub row_below : (op : Op) (at : ℤ) (sheet : Option Glyphs) (text : List ℕ) (w h a b s : ℕ) (d : Alignment) (y : ℕ) (row : List ℕ) → block_height h b s ≤ y → Painted op (shifted at (λ x. block_dot (layout sheet w h a b s d) text x y)) row row
row_below op at sheet text w h a b s d y row l = moved_none op at (λ x. block_dot (layout sheet w h a b s d) text x y) row (λ x. sym (block_below sheet text w h a b s d x y l))

pub row_narrow : (op : Op) (at : ℤ) (sheet : Option Glyphs) (text : List ℕ) (w h a b s : ℕ) (d : Alignment) (y : ℕ) (row : List ℕ) → a < w → Painted op (shifted at (λ x. block_dot (layout sheet w h a b s d) text x y)) row row
row_narrow op at sheet text w h a b s d y row l = moved_none op at (λ x. block_dot (layout sheet w h a b s d) text x y) row (λ x. sym (block_narrow sheet text w h a b s d x y l))
