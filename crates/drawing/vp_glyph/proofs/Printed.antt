-- Rows of characters that are printed just as they stand.
use Rattle.std.proofs.Common.{◌≡◌, ℕ, ◌+◌, ◌-◌, ◌*◌, ◌/◌, ◌<◌, ◌≤◌, Bool, true, false, not, cond, ltb, ◌&&◌, ◌||◌, sym, ap, ◌∙◌, arith, List, get_or, replicate, length, set, get_or-set_same, get_or-set_other}
use Rattle.std.proofs.lemmas.List.{get_or-replicate, get_or_past, length-replicate}
use Rattle.std.proofs.lemmas.Bool.{cases_lt, false_from_ne_true, lt-ltb, lt-leb, le-leb}
use Rattle.std.specs.Prelude.{Option, MatchOption}
use Rattle.vp_dots.specs.Words.{word_dot, IsReady}
use Rattle.vp_glyph.specs.Cells.{font_width, font_height, font_dot, bold_dot, cell_width, cell_height, underlined, cell_dot, cell_inside}
use Rattle.vp_glyph.specs.declared.cell.Font.{Font}
use Rattle.vp_glyph.specs.declared.cell.Style.{Style}
use Rattle.vp_glyph.specs.Sheets.{Sheets}
use Rattle.vp_glyph.proofs.Looks.{white_dot}

and_false : (b : Bool) → (b && false) ≡ false
and_false b = grind arith

module _ (sheets : Sheets) (font : Font) (style : Style) (c y : ℕ) (h : style.hm ≡ 1) (low : y < font_height font) where
  -- the dots of the character itself
  abbrev body : ℕ → Bool
  body x = ltb (x / style.wm) (font_width font) && bold_dot style.bold (font_dot sheets c font) (x / style.wm) y

  printed_dot : (x : ℕ) → cell_dot sheets font style c x y ≡ (ltb x (cell_width font style) && cond style.inverse (not (body x)) (body x || underlined font style y))
  unfolding cell_dot
  printed_dot x = grind (arith, lt-ltb)

  -- the character stands in its cell
  within : (x : ℕ) → x < cell_width font style → (ltb x (font_width font * style.wm) && body x) ≡ body x
  within x l = grind arith

  pub printed_upright : (wide x : ℕ) → style.inverse ≡ false → y < font_height font - style.underline → word_dot wide x ≡ (ltb x (font_width font * style.wm) && body x) → word_dot wide x ≡ cell_dot sheets font style c x y
  printed_upright wide x i u d = grind (arith, lt-leb, printed_dot, cases_lt, lt-ltb, within)

  -- of a character that is printed just as it stands in its sheet
  pub printed_plain : (word x : ℕ) → style.wm ≡ 1 → style.bold ≡ false → style.underline ≡ 0 → style.inverse ≡ false
      → word_dot word x ≡ (ltb x (font_width font) && bold_dot false (font_dot sheets c font) x y) → word_dot word x ≡ cell_dot sheets font style c x y
  printed_plain word x w b u i e = grind (arith, printed_upright)

-- below it there is nothing
pub printed_below : (sheets : Sheets) (font : Font) (style : Style) (c x y : ℕ) → style.hm ≡ 1 → font_height font ≤ y → word_dot 0 x ≡ cell_dot sheets font style c x y
printed_below sheets font style c x y h l =
    let high : font_height font * style.hm ≡ font_height font = ap (λ n. font_height font * n) h ∙ omega arith in
    white_dot x ∙ sym (false_from_ne_true (cell_dot sheets font style c x y) (λ e. absurd (omega (arith, (cell_inside sheets font style c x y e).1, high))))

-- words that are written from the first one on
pub words_none : (n : ℕ) (f : ℕ → ℕ → Bool) (k x : ℕ) → word_dot (get_or (replicate {A = ℕ} n 0) k 0) x ≡ (ltb k 0 && f x k)
words_none n f k x = grind (arith, get_or-replicate, get_or_past, length-replicate, white_dot)

pub words_more : (words : List ℕ) (f : ℕ → ℕ → Bool) (y w : ℕ) → y < length words → ((k x : ℕ) → word_dot (get_or words k 0) x ≡ (ltb k y && f x k))
    → ((x : ℕ) → word_dot w x ≡ f x y) → (k x : ℕ) → word_dot (get_or (set words y w) k 0) x ≡ (ltb k (y + 1) && f x k)
words_more words f y w l p q k x = grind (arith, get_or-set_same, get_or-set_other)

-- a character that is printed just as it stands in its sheet
pub ready_cell : (sheets : Sheets) (font : Font) (style : Style) (c : ℕ) → (style.wm ≡ 1) × (style.hm ≡ 1) × (style.bold ≡ false) × (style.underline ≡ 0) × (style.inverse ≡ false)
    → ((x y : ℕ) → font_dot sheets c font x y ≡ true → (x < font_width font) × (y < font_height font))
    → (x y : ℕ) → font_dot sheets c font x y ≡ cell_dot sheets font style c x y
unfolding cell_dot
ready_cell sheets font style c (w, h, b, u, i) inside x y = grind arith

pub map_ready : {X : Type 0} (r : Option X) (P Q : X → Type 0) → ((v : X) → P v → Q v) → MatchOption r (Unit {0}) P → MatchOption r (Unit {0}) Q
map_ready h1 h2 = grind arith

pub ready_printed : (sheets : Sheets) (font : Font) (style : Style) (c above : ℕ) (words : List ℕ) (dots : ℕ → ℕ → Bool)
    → (style.wm ≡ 1) × (style.hm ≡ 1) × (style.bold ≡ false) × (style.underline ≡ 0) × (style.inverse ≡ false) → ((x y : ℕ) → dots x y ≡ font_dot sheets c font x y)
    → IsReady (font_height font) above words dots × ((x y : ℕ) → dots x y ≡ true → (x < font_width font) × (y < font_height font))
    → IsReady (cell_height font style) above words (λ x y. cell_dot sheets font style c x y)
ready_printed sheets font style c above words dots plain same p = grind (arith, ready_cell)

-- no line that stands ready is wider than the character
pub ready_narrow : (high above : ℕ) (words : List ℕ) (ink : ℕ → ℕ → Bool) (wide : ℕ) → wide ≤ 12 → IsReady high above words ink → ((u v : ℕ) → ink u v ≡ true → u < wide)
    → (x y : ℕ) → 12 ≤ x → word_dot (get_or words y 0) x ≡ false
ready_narrow high above words ink wide few is inside x y h =
    let place : above + y - above ≡ y = omega arith in
    rw (le-leb above (above + y) (omega arith), place) at (is.dots_are x (above + y)) ∙ false_from_ne_true (ink x (above + y)) (λ e. absurd (omega (arith, inside x (above + y) e)))

-- all of them
pub words_all : (f : ℕ → ℕ → Bool) (words : List ℕ) (n k x : ℕ) → word_dot (get_or words k 0) x ≡ (ltb k n && f x k) → (n ≤ k → f x k ≡ false) → word_dot (get_or words k 0) x ≡ f x k
words_all f words n k x p e = grind arith

-- none below those that a list has
pub word_past : (rows : List ℕ) (b : Bool) (k x : ℕ) → length rows ≤ k → (b && word_dot (get_or rows k 0) x) ≡ false
word_past rows b k x g = ap (λ w. b && word_dot w x) (get_or_past rows k 0 g) ∙ ap (λ d. b && d) (white_dot x) ∙ and_false b
