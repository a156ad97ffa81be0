-- The line's strip out of its bitmap.
use Rattle.std.proofs.Common.{◌≡◌, ℕ, ◌+◌, ◌-◌, ◌<◌, ◌≤◌, true, nat_lt, nat_le, refl, ap, ◌∙◌, arith, List, [], ◌∷◌, Some}
use Rattle.std.proofs.lemmas.Bool.{cases_lt, le-ltb}
use Rattle.vp_page.specs.declared.page.TheConstants.{PAPER_DOTS}
use Rattle.vp_esc.specs.declared.item.EscItem.{EscItem}
use Rattle.vp_strips.specs.Canvases.{Canvas}
use Rattle.vp_strips.specs.declared.strip.Dots.TheVariants.{Line, Drawn}
use Rattle.vp_dots.specs.Images.{Image}
use Rattle.vp_strips.specs.SymbolInks.{IsDrawn}
use Rattle.vp_receipt_settings.specs.Setup.{Setup}
use Rattle.vp_strips.specs.Held.{whole}
use Rattle.vp_receipt_settings.specs.Line.{Placed, height, right_edge, line, is_open, standard_length}
use Rattle.vp_receipt_settings.specs.Settings.{settings_of, paper_length, printed_at}
use Rattle.vp_strips.specs.LineDots.{HasDots, HasOpen, any_dot}
use Rattle.vp_strips.specs.Rows.{printed_dot, strip_text, line_text, image_text}
use Rattle.vp_receipt_settings.specs.declared.settings.Settings.{Settings}
use Rattle.vp_strips.specs.Jobs.{line_dot_of}
use Rattle.vp_receipt_settings.specs.declared.text.TheConstants.{LINE_ROWS}
use Rattle.vp_strips.proofs.Strips.{whole_is}

pub raised : (placed : List Placed) (high x y : ℕ) → height placed ≤ high → high ≤ LINE_ROWS → y < high → any_dot placed high x y ≡ any_dot placed LINE_ROWS x (LINE_ROWS - high + y)
raised [] high x y h k l = refl
raised (p ∷ rest) high x y h k l = grind (arith, raised rest high x y (omega arith) k l)

open_line : (placed : List Placed) → 0 < height placed → is_open placed ≡ true
open_line placed h = grind arith

-- the lowest rows of the bitmap of a line are that line
module _ (setup : Setup) (before : List EscItem) (bitmap : List (List ℕ)) (high left length : ℕ) (high_is : high ≡ height (line setup before)) (long_is : length ≡ paper_length setup before)
    (left_is : left ≡ printed_at setup before (right_edge (line setup before))) (small : high ≤ LINE_ROWS) (has : is_open (line setup before) ≡ true → HasDots (line setup before) bitmap) where
  pub same_dot : (x y : ℕ) → x < PAPER_DOTS → line_dot_of high left length bitmap x y ≡ printed_dot setup before x y
  same_dot x y l = grind (arith, cases_lt, nat_lt, nat_le, open_line, raised, le-ltb)

-- the strip that is made of the settings
pub text_is : (setup : Setup) (before : List EscItem) (canvas : Canvas) (s : Settings) (high left length rows : ℕ) → s ≡ settings_of setup before → high ≡ s.height
    → length ≡ standard_length s.paper s.left_margin s.area_width → left ≡ printed_at setup before s.right_edge → high ≤ LINE_ROWS → HasOpen (line setup before) canvas.bitmap → (rows ≡ 0 → ⊥)
    → whole (record { paper = s.paper; tall = rows; rows = rows; dots = Line high left length }) canvas ≡ line_text setup before rows
text_is setup before canvas s high left length rows e high_is long_is left_is small has some =
    whole_is (record { paper = s.paper; tall = rows; rows = rows; dots = Line high left length }) canvas (printed_dot setup before) refl some
    (same_dot setup before canvas.bitmap high left length (high_is ∙ ap (λ (q : Settings). q.height) e) (long_is ∙ ap (λ (q : Settings). standard_length q.paper q.left_margin q.area_width) e)
    (left_is ∙ ap (λ (q : Settings). printed_at setup before q.right_edge) e) small has)
    ∙ ap (λ (q : Settings). strip_text q.paper rows (printed_dot setup before)) e

-- that of a symbol
pub drawn_is : (setup : Setup) (before : List EscItem) (canvas : Canvas) (s : Settings) (image : Image) (wide high left length : ℕ) → s ≡ settings_of setup before
    → IsDrawn canvas.sheets canvas.symbol wide high image → 0 < high → left ≡ printed_at setup before wide → length ≡ standard_length s.paper s.left_margin s.area_width
    → whole (record { paper = s.paper; tall = high; rows = high; dots = Drawn left length }) canvas ≡ image_text setup before (Some image)
drawn_is setup before canvas s image wide high left length e is some left_is long_is = grind (arith, whole_is, nat_le, nat_lt)
