-- A character as its rows, each dot and each row so often, and what is black behind them.
use Rattle.std.proofs.Common.{inl, inr, ◌≡◌, ℕ, ◌+◌, ◌-◌, ◌*◌, ◌/◌, ◌<◌, ◌≤◌, Bool, true, false, not, cond, ltb, leb, ◌&&◌, ◌||◌, sym, ap, ◌∙◌, arith}
use Rattle.std.proofs.Math.Nat.{mul-le-mul_right}
use Rattle.std.proofs.lemmas.Bool.{cases_lt, lt-ltb, le-ltb, lt-leb, le-leb, ltb-true, ltb-false}
use Rattle.vp_dots.specs.Dots.{span}
use Rattle.vp_glyph.specs.Cells.{font_width, font_height, font_dot, bold_dot, cell_width, cell_height, underlined, cell_dot}
use Rattle.vp_glyph.specs.Parts.{row_dot, filled_dot}
use Rattle.vp_glyph.specs.declared.cell.Font.{Font}
use Rattle.vp_glyph.specs.declared.cell.Style.{Style}
use Rattle.vp_glyph.specs.Sheets.{Sheets}

pub some_width : (x n w : ℕ) → x < n * w → 0 < w
some_width x n w h1 = grind arith

-- a place of n that are so wide
pub place_within : (x n w : ℕ) → 0 < w → ltb (x / w) n ≡ ltb x (n * w)
place_within x n w p = grind arith

-- a place of the character itself, not of its spacing
pub body_place : (x n k w : ℕ) → x < (n + k) * w → ltb x (n * w) ≡ ltb (x / w) n
body_place x n k w l = sym (place_within x n w (some_width x (n + k) w l))

pub past_all : (x n k w : ℕ) → (n + k) * w ≤ x → ltb x (n * w) ≡ false
past_all x n k w l = let j : n ≤ n + k = omega arith in let m : n * w ≤ (n + k) * w = mul-le-mul_right w j in le-ltb x (n * w) (omega arith)

pub font_few : (font : Font) → font_width font ≤ 12
font_few font = grind arith

pub font_low : (font : Font) → font_height font ≤ 24
font_low font = grind arith

-- one of twelve dots that are so wide
in_row : (font : Font) (w x : ℕ) → (ltb x (12 * w) && ltb (x / w) (font_width font)) ≡ ltb x (font_width font * w)
in_row font w x = grind arith

not_before : (x n : ℕ) → leb n x ≡ not (ltb x n)
not_before x n = elim (cases_lt x n) [ inl l ↦ lt-leb n x l ∙ sym (ap not (lt-ltb x n l)) | inr g ↦ le-leb n x g ∙ sym (ap not (le-ltb x n g)) ]

-- a dot of the character or of what is black behind it
either : (i p q r s b u : Bool) → (p ≡ true → s ≡ r) → (p ≡ false → s ≡ false)
    → (p && q && cond i (not (r && b)) (r && b || u)) ≡ (s && (q && cond i (not b) b) || p && q && cond i (not s) u)
either i p q r s b u h1 h2 = grind arith

joined : (t r q e s : Bool) → (t && r) ≡ s → (t && (r && q && e)) ≡ (s && (q && e))
joined t r q e s h1 = grind arith

module _ (sheets : Sheets) (font : Font) (style : Style) (c : ℕ) where
  -- rows that are printed once and more
  pub parts_dot : (x y : ℕ) → 0 < style.hm
      → (ltb x (12 * style.wm) && row_dot sheets font style c (x / style.wm) (y / style.hm) || filled_dot font style x y) ≡ cell_dot sheets font style c x y
  unfolding cell_dot
  parts_dot x y some = sym (rw (place_within y (font_height font) style.hm some, not_before x (font_width font * style.wm))
      (either style.inverse (ltb x (cell_width font style)) (ltb y (cell_height font style)) (ltb (x / style.wm) (font_width font)) (ltb x (font_width font * style.wm))
      (bold_dot style.bold (font_dot sheets c font) (x / style.wm) (y / style.hm)) (underlined font style y)
      (λ t. body_place x (font_width font) style.spacing style.wm (ltb-true x (cell_width font style) t))
      (λ f. past_all x (font_width font) style.spacing style.wm (ltb-false x (cell_width font style) f))
      ∙ ap (λ b. b || ltb x (cell_width font style) && ltb y (cell_height font style) && cond style.inverse (not (ltb x (font_width font * style.wm))) (underlined font style y))
      (sym (joined (ltb x (12 * style.wm)) (ltb (x / style.wm) (font_width font)) (ltb y (cell_height font style)) _ _ (in_row font style.wm x)))))

  -- below the character
  pub row_below : (x y : ℕ) → font_height font ≤ y → row_dot sheets font style c x y ≡ false
  row_below x y g = grind arith

module _ (font : Font) (style : Style) (x y : ℕ) where
  -- the spacing of an inverse one
  pub spacing_dot : (left wide high : ℕ) → style.inverse ≡ true → left ≡ font_width font * style.wm → wide ≡ style.spacing * style.wm → high ≡ cell_height font style
      → (span left (left + wide) x && span 0 (0 + high) y) ≡ filled_dot font style x y
  spacing_dot left wide high i a b h = grind arith

  -- the underline of any other
  pub underline_dot : (top wide high : ℕ) → style.inverse ≡ false → top ≡ cell_height font style - style.underline → wide ≡ cell_width font style → top + high ≡ cell_height font style
      → (span 0 (0 + wide) x && span top (top + high) y) ≡ filled_dot font style x y
  underline_dot top wide high i t w h = grind arith
