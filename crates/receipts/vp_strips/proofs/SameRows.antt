-- Which rows of a line show what the one above does.
use Rattle.std.proofs.Common.{◌≡◌, ℕ, ◌+◌, ◌-◌, ◌/◌, ◌<◌, ◌≤◌, ◌∙◌, Bool, true, false, refl, ap, sym, pos, max, arith, List, [], ◌∷◌, zero, suc, inl, inr, length, drop, get_or, set, length-set, get_or-set_same, get_or-set_other, replicate, if◌then◌else◌}
use Rattle.std.proofs.lemmas.List.{get_or-drop, get_or_past, get_or-replicate, length-replicate}
use Rattle.std.proofs.lemmas.Bool.{cases_lt, lt-ltb, true≢false}
use Rattle.vp_dots.specs.Dots.{dot}
use Rattle.vp_dots.specs.Painting.{Painted}
use Rattle.vp_dots.specs.Places.{placed, RowsPainted}
use Rattle.vp_dots.proofs.Paints.{painted_same}
use Rattle.vp_dots.specs.declared.Op.TheVariants.{Black}
use Rattle.vp_glyph.specs.Cells.{cell_dot, cell_height, underlined}
use Rattle.vp_glyph.specs.Sheets.{Sheets}
use Rattle.vp_glyph.specs.declared.cell.Font.{Font}
use Rattle.vp_glyph.specs.declared.cell.Style.{Style}
use Rattle.vp_page.specs.declared.line.TheConstants.{LINE_BYTES, LINE_DOTS}
use Rattle.vp_receipt_settings.specs.Line.{Placed}
use Rattle.vp_receipt_settings.specs.declared.text.TheConstants.{LINE_ROWS}
use Rattle.vp_page.specs.Lines.{shown_lines}
use Rattle.vp_page.proofs.Shown.{all_shown, length-shown, shows_above, shows_own}
use Rattle.vp_strips.specs.LineDots.{HasDots, IsClear, ink_placed}
use Rattle.vp_strips.proofs.OwnRows.{OwnPainted}

-- such rows of a character show the same
pub same_cell_row : (sheets : Sheets) (font : Font) (style : Style) (c x v : ℕ) → v < cell_height font style → v / style.hm ≡ (v - 1) / style.hm → underlined font style v ≡ underlined font style (v - 1)
    → cell_dot sheets font style c x v ≡ cell_dot sheets font style c x (v - 1)
unfolding cell_dot
same_cell_row sheets font style c x v h e u = rw (lt-ltb v (cell_height font style) h, lt-ltb (v - 1) (cell_height font style) (omega (arith, h)), e, u) refl

-- rows that are as long as a line are there
pub many_rows : (rows : List (List ℕ)) → ((y : ℕ) → y < LINE_ROWS → length (get_or rows y []) ≡ LINE_BYTES) → LINE_ROWS ≤ length rows
many_rows rows long = elim (cases_lt (LINE_ROWS - 1) (length rows)) [
  | inl l ↦ omega (arith, l)
  | inr g ↦ absurd (let none : length (get_or rows (LINE_ROWS - 1) []) ≡ 0 = ap length (get_or_past rows (LINE_ROWS - 1) [] g) in omega (arith, none, long (LINE_ROWS - 1) (omega arith)))
]

-- a row that is given the bytes that it shows
module _ (same : List Bool) (rows : List (List ℕ)) (y own : ℕ) (inside : y < length rows) (long : y < length same) (shows : get_or (shown_lines same rows) y [] ≡ get_or rows own []) where
  pub parted_shows : (z : ℕ) → get_or (shown_lines (set same y false) (set rows y (get_or rows own []))) z [] ≡ get_or (shown_lines same rows) z []
  parted_shows z = elim (cases_lt z (length rows)) [
    | inl l ↦ all_shown (λ k line. line ≡ get_or (shown_lines same rows) k []) (set same y false) (set rows y (get_or rows own []))
        (λ k h e. grind (arith, shows, inside, long, h, length-set, get_or-set_same, get_or-set_other, shows_own same rows k, e))
        (λ k line h told before. grind (arith, inside, long, h, told, before, length-set, get_or-set_same, get_or-set_other, shows_above same rows k)) z (omega (arith, l, length-set rows y (get_or rows own [])))
    | inr g ↦ get_or_past _ z [] (omega (arith, g, length-shown (set same y false) (set rows y (get_or rows own [])), length-set rows y (get_or rows own []))) ∙ sym (get_or_past _ z [] (omega (arith, g, length-shown same rows)))
  ]

  pub parted_clear : y < LINE_ROWS → own ≤ y → get_or same y false ≡ true → (used : ℕ) → IsClear used same rows → IsClear used (set same y false) (set rows y (get_or rows own []))
  parted_clear row up told used is = record {
    few = is.few;
    rows_are = λ z h. grind (arith, h, inside, row, up, get_or-set_same, get_or-set_other, is.rows_are z, is.rows_are own);
    above = λ x z h k. grind (arith, h, k, up, inside, get_or-set_same, get_or-set_other, is.above x z, is.above x own);
    told = λ x z h k e. grind (arith, h, k, e, inside, long, get_or-set_same, get_or-set_other, is.told x z);
  }

-- what is above the rows in use
pub white_above : (used : ℕ) (same : List Bool) (rows : List (List ℕ)) → IsClear used same rows → (x y : ℕ) → x < LINE_DOTS → y < LINE_ROWS - used → dot (get_or (shown_lines same rows) y []) x ≡ false
white_above used same rows is x y h l =
    all_shown (λ k line. k < LINE_ROWS - used → dot line x ≡ false) same rows (λ k m own g. is.above x k h g) (λ k line m told before g. before (omega (arith, g))) y (omega (arith, l, many_rows rows is.rows_are)) l

-- a row shows its own bytes, if one in use has them
pub own_shown : (used : ℕ) (same : List Bool) (rows : List (List ℕ)) → IsClear used same rows → (x y : ℕ) → x < LINE_DOTS → y < LINE_ROWS → (LINE_ROWS - used ≤ y → get_or same y false ≡ false)
    → dot (get_or rows y []) x ≡ dot (get_or (shown_lines same rows) y []) x
own_shown used same rows is x y h l own = elim (cases_lt y (LINE_ROWS - used)) [
  | inl a ↦ is.above x y h a ∙ sym (white_above used same rows is x y h a)
  | inr b ↦ ap (λ (r : List ℕ). dot r x) (sym (shows_own same rows y (omega (arith, l, many_rows rows is.rows_are)) (λ _. own b)))
]

-- rows are as long as a line, whatever they show
pub shown_long : (same : List Bool) (rows : List (List ℕ)) → ((y : ℕ) → y < LINE_ROWS → length (get_or rows y []) ≡ LINE_BYTES) → (y : ℕ) → y < LINE_ROWS → length (get_or (shown_lines same rows) y []) ≡ LINE_BYTES
shown_long same rows long y h =
    all_shown (λ k line. k < LINE_ROWS → length line ≡ LINE_BYTES) same rows (λ k m own g. long k g) (λ k line m told before g. before (omega (arith, g))) y (omega (arith, h, many_rows rows long)) h

-- white rows
module _ (same : List Bool) (rows : List (List ℕ)) (white : HasDots [] rows) where
  pub white_clear : IsClear 0 same rows
  white_clear = record { few = omega arith; rows_are = white.rows_are; above = λ x y h l. white.dots_are x y h (omega (arith, l)); told = λ x y h l e. white.dots_are x y h l }

  pub white_dots : HasDots [] (shown_lines same rows)
  white_dots = record {
    rows_are = shown_long same rows white.rows_are;
    dots_are = λ x y h l. white_above 0 same rows white_clear x y h (omega (arith, l));
  }

-- ink on the rows that have their own bytes is ink on all, where the others show it as the one above does
module _ (same : List Bool) (ink : ℕ → ℕ → Bool) (old new : List (List ℕ)) (long : (y : ℕ) → y < LINE_ROWS → length (get_or old y []) ≡ LINE_BYTES) (p : OwnPainted same ink old new)
    (first : (x : ℕ) → get_or same 0 false ≡ true → ink x 0 ≡ false) (alike : (x y : ℕ) → y + 1 < LINE_ROWS → get_or same (y + 1) false ≡ true → ink x (y + 1) ≡ ink x y) where
  few : LINE_ROWS ≤ length old
  few = many_rows old long

  count : LINE_ROWS ≤ length new
  count = many_rows new (λ y h. (p.rows_are y h).length_is ∙ long y h)

  painted_next : (y : ℕ) (told : Bool) → y + 1 < LINE_ROWS → get_or same (y + 1) false ≡ told → Painted Black (λ x. ink x y) (get_or (shown_lines same old) y []) (get_or (shown_lines same new) y [])
      → Painted Black (λ x. ink x (y + 1)) (get_or (shown_lines same old) (y + 1) []) (get_or (shown_lines same new) (y + 1) [])
  painted_next y true h e before = rw (shows_above same old y (omega (arith, h, few)) e, shows_above same new y (omega (arith, h, count)) e) (painted_same Black _ _ _ _ (λ x l. sym (alike x y h e)) before)
  painted_next y false h e before = rw (shows_own same old (y + 1) (omega (arith, h, few)) (λ _. e), shows_own same new (y + 1) (omega (arith, h, count)) (λ _. e)) (painted_same Black _ _ _ _ (λ x l. grind arith) (p.rows_are (y + 1) h))

  painted_row : (y : ℕ) → y < LINE_ROWS → Painted Black (λ x. ink x y) (get_or (shown_lines same old) y []) (get_or (shown_lines same new) y [])
  painted_row zero h = rw (shows_own same old 0 (omega (arith, few)) (λ some. absurd (omega (arith, some))), shows_own same new 0 (omega (arith, count)) (λ some. absurd (omega (arith, some))))
      (painted_same Black _ (λ x. ink x 0) _ _ (λ x l. grind (arith, first x)) (p.rows_are 0 h))
  painted_row (suc y) h = let at : y + 1 ≡ suc y = omega arith in rw at at (painted_next y (get_or same (y + 1) false) (omega (arith, h)) refl (painted_row y (omega (arith, h))))

  pub painted_shown : RowsPainted LINE_ROWS Black ink (shown_lines same old) (shown_lines same new)
  painted_shown = record { rows_are = painted_row }

-- rows that show the same, painted
pub from_shown : (ink : ℕ → ℕ → Bool) (a b c : List (List ℕ)) → ((y : ℕ) → get_or b y [] ≡ get_or a y []) → RowsPainted LINE_ROWS Black ink b c → RowsPainted LINE_ROWS Black ink a c
from_shown ink a b c same p = grind arith

-- rows each of which has its own bytes, painted
pub each_shown : (ink : ℕ → ℕ → Bool) (same : List Bool) (a b c : List (List ℕ)) → ((y : ℕ) → get_or same y false ≡ false) → ((y : ℕ) → y < LINE_ROWS → length (get_or b y []) ≡ LINE_BYTES)
    → ((y : ℕ) → y < LINE_ROWS → length (get_or a y []) ≡ LINE_BYTES) → ((x y : ℕ) → x < LINE_DOTS → y < LINE_ROWS → dot (get_or b y []) x ≡ dot (get_or a y []) x)
    → RowsPainted LINE_ROWS Black ink b c → RowsPainted LINE_ROWS Black ink a (shown_lines same c)
each_shown ink same a b c each long as_long dots p = record {
  rows_are = λ y h. rw (shows_own same c y (omega (arith, h, many_rows c (λ z l. (p.rows_are z l).length_is ∙ long z l))) (λ _. each y)) record {
    length_is = (p.rows_are y h).length_is ∙ long y h ∙ sym (as_long y h);
    dots_are = λ d l. grind (arith, l, h, long y h, as_long y h, dots d y, (p.rows_are y h).dots_are d);
  };
}

-- ink leaves rows white where it isn't
pub painted_clear : (used top at : ℕ) (ink : ℕ → ℕ → Bool) (same : List Bool) (old new : List (List ℕ)) → top ≤ LINE_ROWS → IsClear used same old → OwnPainted same (placed (pos at) (pos top) ink) old new
    → IsClear (max used (LINE_ROWS - top)) same new
painted_clear used top at ink same old new few is p = grind arith

-- ink on the rows from one on
module _ (at top : ℕ) (ink : ℕ → ℕ → Bool) (x y : ℕ) where
  pub placed_same : (top ≤ y + 1 → (top < y + 1) × (ink (x - at) (y + 1 - top) ≡ ink (x - at) (y + 1 - top - 1))) → placed (pos at) (pos top) ink x (y + 1) ≡ placed (pos at) (pos top) ink x y
  placed_same same = grind arith

-- a line with one more item, if it is painted
pub dots_more : (line : List Placed) (at width high : ℕ) (ink : ℕ → ℕ → Bool) (old new : List (List ℕ)) → RowsPainted LINE_ROWS Black (placed (pos at) (pos (LINE_ROWS - high)) ink) old new
    → HasDots line old → HasDots (ink_placed at width high ink ∷ line) new
dots_more line at width high ink old new p has = grind arith

-- no row is told
pub none_told : (y : ℕ) → get_or (replicate LINE_ROWS false) y false ≡ false
none_told y = elim (cases_lt y LINE_ROWS) [ inl l ↦ get_or-replicate LINE_ROWS y false false l | inr g ↦ get_or_past (replicate LINE_ROWS false) y false (omega (arith, g, length-replicate {A = Bool} LINE_ROWS false)) ]

-- rows that are lent, and what is told of them
pub lent_lines : (top : ℕ) (told : Bool) (same : List Bool) (rows lent : List (List ℕ)) → top ≤ LINE_ROWS → LINE_ROWS ≤ length rows → (top < LINE_ROWS → get_or same top false ≡ false) → (told ≡ false → (y : ℕ) → get_or same y false ≡ false)
    → length lent ≡ LINE_ROWS - top → ((i : ℕ) → i < LINE_ROWS - top → get_or lent i [] ≡ get_or rows (top + i) [])
    → (i : ℕ) → i < LINE_ROWS - top → get_or (shown_lines (if told then drop top same else []) lent) i [] ≡ get_or (shown_lines same rows) (top + i) []
lent_lines top told same rows lent few many first none long is i h =
    all_shown (λ k line. k < LINE_ROWS - top → line ≡ get_or (shown_lines same rows) (top + k) []) (if told then drop top same else []) lent
    (λ k m own g. is k g ∙ sym (shows_own same rows (top + k) (omega (arith, g, many)) (λ some. own_told told k first own g none)))
    (λ k line m next before g. before (omega (arith, g)) ∙ sym (above_told told k g next none)) i (omega (arith, h, long)) h
  where
    own_told : (told : Bool) (k : ℕ) → (top < LINE_ROWS → get_or same top false ≡ false) → (0 < k → get_or (if told then drop top same else []) k false ≡ false) → k < LINE_ROWS - top
        → (told ≡ false → (y : ℕ) → get_or same y false ≡ false) → get_or same (top + k) false ≡ false
    own_told true zero first own g none = let at : top + 0 ≡ top = omega arith in rw at (first (omega (arith, g)))
    own_told true (suc k) first own g none = sym (get_or-drop top same (suc k) false) ∙ own (omega arith)
    own_told false k first own g none = none refl (top + k)

    above_told : (told : Bool) (k : ℕ) → k + 1 < LINE_ROWS - top → get_or (if told then drop top same else []) (k + 1) false ≡ true → (told ≡ false → (y : ℕ) → get_or same y false ≡ false)
        → get_or (shown_lines same rows) (top + (k + 1)) [] ≡ get_or (shown_lines same rows) (top + k) []
    above_told true k g next none = let at : top + (k + 1) ≡ top + k + 1 = omega arith in
        rw at (shows_above same rows (top + k) (omega (arith, g, many)) (rw at at (sym (get_or-drop top same (k + 1) false) ∙ next)))
    above_told false k g next none = absurd (true≢false (sym next))

pub told_no_more : (used : ℕ) (same : List Bool) (rows : List (List ℕ)) → IsClear used same rows → IsClear used (replicate LINE_ROWS false) rows
told_no_more used same rows is = record { few = is.few; rows_are = is.rows_are; above = is.above; told = λ x y h l e. absurd (true≢false (sym e ∙ none_told y)) }
