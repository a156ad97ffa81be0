-- The rows of a box.
use Rattle.std.proofs.Common.{◌≡◌, ℕ, ◌+◌, ◌-◌, ◌*◌, ◌/◌, ◌<◌, ◌≤◌, Bool, true, false, not, cond, ltb, leb, ◌&&◌, List, [], ◌∷◌, ◌++◌, ℤ, refl, sym, ap, ◌∙◌, arith}
use Rattle.std.proofs.lemmas.Bool.Decides.{nat_tests}
use Rattle.std.proofs.lemmas.Bool.{and_parts, ltb-true, leb-true}
use Rattle.vp_bar_code.specs.declared.HriPosition.{HriPosition}
use Rattle.vp_glyph.specs.declared.cell.Font.{Font}
use Rattle.vp_bars.specs.Symbols.{Linear}
use Rattle.vp_bars.specs.Symbologies.{text_of}
use Rattle.vp_bars.specs.Widths.{in_bar, bar_widths, total, bars_width, is_black}
use Rattle.vp_bars.specs.Boxes.{Boxed, texts_above, texts_below, line_width, line_dot, text_at, text_width, box_width, box_top, box_height, centred, text_row, bars_row, box_dot}
use Rattle.vp_dots.specs.Dots.{dots, shifted}
use Rattle.vp_dots.proofs.Shifts.{met}
use Rattle.vp_dots.specs.Painting.{Painted}
use Rattle.vp_dots.specs.declared.Op.{Op}
use Rattle.std.proofs.lemmas.List.{append-nil}
use Rattle.vp_bars.specs.declared.symbology.Symbology.{Symbology}
use Rattle.vp_bars.specs.declared.pen.Pen.{Pen}
use Rattle.vp_bars.specs.Drawing.{Draws, HandedOut}
use Rattle.vp_bars.proofs.Paints.{drawn_none, drawn_all}
use Rattle.vp_bars.proofs.Bounds.{width_is, black_is}
use Rattle.vp_bars.proofs.Pieces.{reached}

in_bar_inside : (bar : Bool) (ws : List ℕ) (x : ℕ) → in_bar bar ws x ≡ true → x < total ws
in_bar_inside bar [] x e = cc
in_bar_inside bar (w ∷ ws) x e = grind (arith, nat_tests, in_bar_inside (not bar) ws (x - w))

pub black_widths : (bars : Linear) (n w x : ℕ) → is_black bars n w x ≡ in_bar true (bar_widths bars.symbology n w bars.values) x
unfolding is_black
black_widths bars n w x = black_is bars.symbology n w bars.values x

black_inside : (bars : Linear) (n w x : ℕ) → is_black bars n w x ≡ true → x < bars_width bars n w
black_inside bars n w x e = rw (width_is bars.symbology n w bars.values) (in_bar_inside true (bar_widths bars.symbology n w bars.values) x (sym (black_widths bars n w x) ∙ e))

line_inside : (b : Boxed) (x y : ℕ) → line_dot b.sheets b.font (text_of b.bars) x y ≡ true → x < line_width b.font (text_of b.bars)
unfolding line_dot
line_inside b x y e = ltb-true x (line_width b.font (text_of b.bars)) (and_parts _ _ e).0

centred_inside : (width own : ℕ) (f : ℕ → Bool) (x : ℕ) → own ≤ width → ((u : ℕ) → f u ≡ true → u < own) → centred width own f x ≡ true → x < width
centred_inside width own f x l h e = grind (arith, nat_tests)

-- a row of a box by where it lies
module _ (w h t high x y : ℕ) (above bars below : Bool) where
  abbrev row : Bool
  row = ltb x w && ltb y h && cond (ltb y t) above (cond (ltb y (t + high)) bars below)

  in_top : y < t → t ≤ h → (above ≡ true → x < w) → above ≡ row
  in_top k l f = grind (arith, nat_tests)

  in_bars : t ≤ y → y < t + high → t + high ≤ h → (bars ≡ true → x < w) → bars ≡ row
  in_bars k l m f = grind (arith, nat_tests)

  in_below : t + high ≤ y → y < h → (below ≡ true → x < w) → below ≡ row
  in_below k l f = grind (arith, nat_tests)

  past : h ≤ y → row ≡ false
  past k = grind (arith, nat_tests)

has_above : (p : HriPosition) (k y : ℕ) → y < texts_above p * k → 0 < texts_above p + texts_below p
has_above p k y h1 = grind arith

has_below : (p : HriPosition) (k t y : ℕ) → t ≤ y → y < t + texts_below p * k → 0 < texts_above p + texts_below p
has_below p k t y h1 h2 = grind arith

pub text_fits : (f : Font) (p : HriPosition) → 0 < texts_above p + texts_below p → (t : List ℕ) → text_width f p t ≡ line_width f t
text_fits f p h1 t = grind arith

pub text_stands : (p : HriPosition) → 0 < texts_above p + texts_below p → (t : List ℕ) → text_at p t ≡ t
text_stands p h1 t = grind arith

-- a dot of the text in its place
pub text_shown : (at : ℤ) (b : Boxed) (y left d : ℕ) (t : List ℕ) → t ≡ text_of b.bars → left ≡ (box_width b - line_width b.font (text_of b.bars)) / 2
    → shifted at (text_row b y) d ≡ true → shifted at (λ u. leb left u && line_dot b.sheets b.font t (u - left) y) d ≡ true
text_shown at b y left d t e l h = rw (e, l) h

module _ (b : Boxed) (y x : ℕ) where
  text_inside : (v : ℕ) → 0 < texts_above b.place + texts_below b.place → text_row b v x ≡ true → x < box_width b
  text_inside v h e = grind (arith, centred_inside, text_fits, line_inside)

  bars_inside : bars_row b x ≡ true → x < box_width b
  bars_inside e = centred_inside (box_width b) (bars_width b.bars b.narrow b.wide) (is_black b.bars b.narrow b.wide) x (omega arith) (λ u. black_inside b.bars b.narrow b.wide u) e

  pub row_top : y < box_top b → text_row b y x ≡ box_dot b x y
  unfolding box_dot
  row_top h = grind (arith, in_top, text_inside, has_above)

  pub row_bars : box_top b ≤ y → y < box_top b + b.height → bars_row b x ≡ box_dot b x y
  unfolding box_dot
  row_bars h k = grind (arith, in_bars, bars_inside)

  pub row_below : box_top b + b.height ≤ y → y < box_height b → text_row b (y - box_top b - b.height) x ≡ box_dot b x y
  unfolding box_dot
  row_below h k = grind (arith, in_below, text_inside, has_below)

  pub row_none : box_height b ≤ y → box_dot b x y ≡ false
  unfolding box_dot
  row_none h = past (box_width b) (box_height b) (box_top b) b.height x y (text_row b y x) (bars_row b x) (text_row b (y - box_top b - b.height) x) h

-- the bars, drawn from their left
pub bars_painted : (op : Op) (at : ℤ) (b : Boxed) (row new : List ℕ) (s : Symbology) (vs : List ℕ) (x : ℕ) (next : Pen)
    → s ≡ b.bars.symbology → vs ≡ b.bars.values → x ≡ (box_width b - bars_width b.bars b.narrow b.wide) / 2
    → Draws op at row new (record { x = x; bar = true }) next (bar_widths s b.narrow b.wide vs) → Painted op (shifted at (bars_row b)) row new
bars_painted op at b row new s vs x next e v l d =
    let ws = bar_widths s b.narrow b.wide vs in
    let same : (u : ℕ) → is_black b.bars b.narrow b.wide u ≡ in_bar true (ws ++ []) u = λ u.
    black_widths b.bars b.narrow b.wide u ∙ ap (λ z. in_bar true (bar_widths z b.narrow b.wide b.bars.values) u) (sym e)
    ∙ ap (λ z. in_bar true (bar_widths s b.narrow b.wide z) u) (sym v) ∙ ap (λ z. in_bar true z u) (sym (append-nil ws)) in
    drawn_all op at (bars_row b) row new next.x (in_bar next.bar [])
    (d.drawn (bars_row b) row [] (drawn_none op at (bars_row b) row x (in_bar true (ws ++ []))
    (λ i. ap (λ z. leb z i && is_black b.bars b.narrow b.wide (i - z)) (sym l) ∙ ap (λ z. leb x i && z) (same (i - x)))))
    (λ j. refl)

-- where a dot of them is seen one is handed out at least
pub bars_seen : (at : ℤ) (b : Boxed) (row : List ℕ) (s : Symbology) (vs : List ℕ) (x y n d : ℕ)
    → s ≡ b.bars.symbology → vs ≡ b.bars.values → x ≡ (box_width b - bars_width b.bars b.narrow b.wide) / 2 → y ≡ x + total (bar_widths s b.narrow b.wide vs)
    → HandedOut at (dots row) x y n → d < dots row → shifted at (bars_row b) d ≡ true → 0 < n
bars_seen at b row s vs x y n d e v l m h k t = grind (arith, met, and_parts, width_is, reached, leb-true, black_inside)

-- rows of bars are alike
pub bars_alike : (b : Boxed) (y x v : ℕ) → box_top b ≤ y → y < box_top b + b.height → box_top b ≤ v → v < box_top b + b.height → box_dot b x v ≡ box_dot b x y
bars_alike b y x v h k l m = sym (row_bars b v x l m) ∙ row_bars b y x h k
