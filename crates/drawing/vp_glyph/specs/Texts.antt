-- Texts of labels, in cells of any size.
use Rattle.std.specs.Prelude.{◌≡◌, ℕ, ◌+◌, ◌*◌, ◌/◌, ◌%◌, ◌<◌, min, Bool, true, nat_lt, ◌&&◌, List, length, slice_index, Option}
use Rattle.std.proofs.lemmas.Bool.{and_parts, ltb-true}
use Rattle.vp_glyph.specs.Sheets.{Glyphs, scaled_dot}

-- dot (x, y) of a cell drawn w by h, false outside
unfoldable pub sampled_dot : Option Glyphs → ℕ → ℕ → ℕ → ℕ → ℕ → Bool
sampled_dot sheet c w h x y = nat_lt x w && nat_lt y h && scaled_dot sheet c w h x y

-- there is no ink outside
pub sampled_inside : (sheet : Option Glyphs) (c w h x y : ℕ) → sampled_dot sheet c w h x y ≡ true
    → (x < w) × (y < h)
unfolding sampled_dot
sampled_inside sheet c w h x y e =
    let p = and_parts _ _ e in
    let q = and_parts _ _ p.0 in
    (ltb-true x w q.0, ltb-true y h q.1)

-- dot (x, y) of the cells of some bytes side by side
unfoldable pub text_dot : Option Glyphs → List ℕ → ℕ → ℕ → ℕ → ℕ → Bool
text_dot sheet text w h x y = nat_lt x (w * length text)
    && sampled_dot sheet (slice_index text (x / w)) w h (x % w) y

pub text_inside : (sheet : Option Glyphs) (text : List ℕ) (w h x y : ℕ) → text_dot sheet text w h x y ≡ true
    → (x < w * length text) × (y < h)
unfolding text_dot
text_inside sheet text w h x y e =
    let p = and_parts _ _ e in
    (ltb-true x (w * length text) p.0, (sampled_inside sheet _ w h _ y p.1).1)

-- how many of n cells of w dots side by side can be seen on a row of d dots, at most
abbrev pub seen_cells : ℕ → ℕ → ℕ → ℕ
seen_cells n w d = min n (d / w + 2)
