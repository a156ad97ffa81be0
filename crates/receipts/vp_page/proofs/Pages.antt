-- Layers, and what is painted for them.
use Rattle.std.proofs.Common.{inl, inr, ◌⊎◌, ◌≡◌, ℕ, ◌+◌, ◌-◌, ◌*◌, ◌<◌, ◌≤◌, Bool, true, false, not, min, cond, ltb, leb, eqb, ◌&&◌, ◌||◌, refl, ap, ◌∙◌, arith, List, [], ◌∷◌, length, get_or}
use Rattle.std.proofs.lemmas.Bool.{lt-ltb}
use Rattle.std.proofs.lemmas.Bool.Decides.{nat_tests}
use Rattle.vp_page.specs.declared.line.TheConstants.{LINE_BYTES}
use Rattle.vp_page.specs.declared.page.TheConstants.{PAGE_ROWS, PAPER_BYTES, PAPER_DOTS}
use Rattle.vp_dots.specs.Dots.{dot, span}
use Rattle.vp_dots.specs.Places.{RowsPainted}
use Rattle.vp_dots.specs.declared.Op.TheVariants.{Black, White}
use Rattle.vp_page.specs.declared.area.Area.{Area}
use Rattle.vp_page.specs.declared.white.Rows.{Rows}
use Rattle.vp_page.specs.Areas.{holds, line_length, along, down, turned}
use Rattle.vp_page.specs.Layers.{Layer, Laid, Wiped, Mark, mark_dot, page_dot, first_rows, lines_mark, times_mark}
use Rattle.vp_page.specs.Lines.{line_dot}
use Rattle.vp_page.specs.Pages.{HasPage, IsShown, Paged}
use Rattle.vp_page.specs.Work.{rows_laid, laid_rows, most_wiped, least_wiped, area_rows, area_columns, MOST}
use Rattle.vp_page.specs.Laws.{RowsMakeAnImage}
use Rattle.vp_page.proofs.Falling.{held, lies, within}
use Rattle.vp_page.proofs.Squares.{no_line}
use Rattle.vp_page.proofs.Wiping.{few_black}

-- a dot of a page of which one half was painted black
black_row : (new columns i m r c q : Bool) → new ≡ cond i true r → columns ≡ c → i ≡ m → (r || c) ≡ q → (new || columns) ≡ (m || q)
black_row new columns i m r c q e s t p = grind arith

black_column : (rows new i m r c q : Bool) → new ≡ cond i true c → rows ≡ r → i ≡ m → (r || c) ≡ q → (rows || new) ≡ (m || q)
black_column rows new i m r c q e s t p = grind arith

-- and of one of which both were made white
white_both : (rows columns h g r c q : Bool) → rows ≡ cond h false r → columns ≡ cond g false c → g ≡ h → (r || c) ≡ q → (rows || columns) ≡ (not h && q)
white_both rows columns h g r c q e f s p = grind arith

module _ (layers : List Layer) (ink : ℕ → ℕ → Bool) (old new : Paged) (page : HasPage layers old) (m : Mark) (n : new.laid ≡ min (old.laid + rows_laid m) MOST) (w : new.wiped ≡ old.wiped) where
  -- what is laid along the rows of the page
  pub laid_level : ((x y : ℕ) → x < PAPER_DOTS → y < PAGE_ROWS → ink x y ≡ mark_dot m x y) → RowsPainted PAGE_ROWS Black ink old.rows new.rows → new.columns ≡ old.columns → HasPage (Laid m ∷ layers) new
  laid_level e p same = record {
    rows_are = λ y h. (p.rows_are y h).length_is ∙ page.rows_are y h;
    columns_are = λ x h. ap (λ (cs : List (List ℕ)). length (get_or cs x [])) same ∙ page.columns_are x h;
    dots_are = λ x y k h.
        black_row _ _ (ink x y) _ (dot (get_or old.rows y []) x) (dot (get_or old.columns x []) y) _ ((p.rows_are y h).dots_are x (let long = page.rows_are y h in omega arith))
        (ap (λ (cs : List (List ℕ)). dot (get_or cs x []) y) same) (e x y k h) (page.dots_are x y k h);
    work = record { laid_is = omega (arith, n, page.work.laid_is); at_most = omega (arith, w, page.work.at_most); at_least = omega (arith, w, page.work.at_least) };
  }

  -- and along its columns
  pub laid_turned : ((x y : ℕ) → x < PAPER_DOTS → y < PAGE_ROWS → ink y x ≡ mark_dot m x y) → RowsPainted PAPER_DOTS Black ink old.columns new.columns → new.rows ≡ old.rows → HasPage (Laid m ∷ layers) new
  laid_turned e p same = record {
    rows_are = λ y h. ap (λ (rs : List (List ℕ)). length (get_or rs y [])) same ∙ page.rows_are y h;
    columns_are = λ x h. (p.rows_are x h).length_is ∙ page.columns_are x h;
    dots_are = λ x y k h.
        black_column _ _ (ink y x) _ (dot (get_or old.rows y []) x) (dot (get_or old.columns x []) y) _ ((p.rows_are x k).dots_are y (let long = page.columns_are x k in omega arith))
        (ap (λ (rs : List (List ℕ)). dot (get_or rs y []) x) same) (e x y k h) (page.dots_are x y k h);
    work = record { laid_is = omega (arith, n, page.work.laid_is); at_most = omega (arith, w, page.work.at_most); at_least = omega (arith, w, page.work.at_least) };
  }

turned_holds : (a : Area) (x y : ℕ) → holds (turned a) y x ≡ holds a x y
turned_holds a x y = grind arith

-- an area made white in both halves
module _ (layers : List Layer) (a : Area) (rows columns : Rows) (old new : Paged) (page : HasPage layers old)
    (black_rows : (x y : ℕ) → x < 8 * PAPER_BYTES → y < PAGE_ROWS → holds a x y ≡ true → dot (get_or old.rows y []) x ≡ true → span rows.from rows.to y ≡ true)
    (black_columns : (y x : ℕ) → y < 8 * LINE_BYTES → x < PAPER_DOTS → holds (turned a) y x ≡ true → dot (get_or old.columns x []) y ≡ true → span columns.from columns.to x ≡ true) where
  either : (r c q : Bool) → (r || c) ≡ q → q ≡ true → (r ≡ true) ⊎ (c ≡ true)
  either true c q e t = inl refl
  either false c q e t = inr (e ∙ t)

  seen : (x y : ℕ) → x < PAPER_DOTS → y < PAGE_ROWS → holds a x y ≡ true → page_dot layers x y ≡ true → (span rows.from rows.to y ≡ true) ⊎ (span columns.from columns.to x ≡ true)
  seen x y k h t b = elim (either _ _ _ (page.dots_are x y k h) b) [
    | inl r ↦ inl (black_rows x y k h t r)
    | inr c ↦ inr (black_columns y x h k (turned_holds a x y ∙ t) c)
  ]

  pub wiped : RowsPainted PAGE_ROWS White (holds a) old.rows new.rows → RowsPainted PAPER_DOTS White (holds (turned a)) old.columns new.columns
      → rows.to - rows.from ≤ area_rows a → columns.to - columns.from ≤ area_columns a
      → new.wiped ≡ min (old.wiped + (rows.to - rows.from + (columns.to - columns.from))) MOST → new.laid ≡ old.laid → HasPage (Wiped a ∷ layers) new
  wiped p q few less w same = let some = few_black layers a rows columns seen PAPER_DOTS in record {
    rows_are = λ y h. (p.rows_are y h).length_is ∙ page.rows_are y h;
    columns_are = λ x h. (q.rows_are x h).length_is ∙ page.columns_are x h;
    dots_are = λ x y k h.
        white_both _ _ (holds a x y) (holds (turned a) y x) (dot (get_or old.rows y []) x) (dot (get_or old.columns x []) y) _
        ((p.rows_are y h).dots_are x (let long = page.rows_are y h in omega arith)) ((q.rows_are x k).dots_are y (let long = page.columns_are x k in omega arith)) (turned_holds a x y) (page.dots_are x y k h);
    work = record { laid_is = omega (arith, same, page.work.laid_is); at_most = omega (arith, w, few, less, page.work.at_most); at_least = omega (arith, w, some, page.work.at_least) };
  }

-- layers that take as much
pub record TakeAsMuch (before after : List Layer) : Type 0 where
  pub laid : laid_rows before ≡ laid_rows after
  pub most : most_wiped before ≡ most_wiped after
  pub least : least_wiped before ≡ least_wiped after

-- layers with the same dots
pub same_page : (before after : List Layer) (page : Paged) → ((x y : ℕ) → page_dot before x y ≡ page_dot after x y) → TakeAsMuch before after → HasPage before page → HasPage after page
same_page before after page e t h = grind arith

-- a mark with no dot that falls on the page
pub nothing_laid : (m : Mark) (layers : List Layer) (page : Paged) → ((x y : ℕ) → mark_dot m x y ≡ false) → rows_laid m ≡ 0 → HasPage layers page → HasPage (Laid m ∷ layers) page
nothing_laid m layers page e n h = grind arith

no_row : (h t : Bool) (w : ℕ) (b : Bool) → (h && (t && (ltb w 0 && b))) ≡ false
no_row h t w b = grind arith

one_more : (h r p : Bool) (w top k : ℕ) (f : ℕ → Bool) → (h ≡ true → r ≡ f k)
    → (h && (leb (top + k) w && (eqb (w - (top + k)) 0 && r)) || (h && (leb top w && (ltb (w - top) k && f (w - top))) || p)) ≡ (h && (leb top w && (ltb (w - top) (k + 1) && f (w - top))) || p)
one_more h r p w top k f e = grind (arith, nat_tests)

enough : (h : Bool) (w top n long : ℕ) (b : Bool) → (h ≡ true → w < long) → (b ≡ true → top + (w - top) < long → w - top < n) → (h && (leb top w && (ltb (w - top) n && b))) ≡ (h && (leb top w && b))
enough h w top n long b i e = grind (arith, nat_tests)

pub rows_make_an_image : RowsMakeAnImage
rows_make_an_image = grind (arith, nat_tests, nothing_laid, no_row, same_page, one_more, lies, within, enough)

-- lines that are laid at once below the first k rows of a mark
pub lines_more : (m : Mark) (k n : ℕ) (lines : List (List ℕ)) (layers : List Layer) (page : Paged) → length lines ≡ n
    → ((u w : ℕ) → u < line_length m.area m.direction → w < n → line_dot lines w u ≡ m.dot u (k + w))
    → HasPage (Laid (lines_mark m.area m.direction (m.top + k) lines) ∷ Laid (first_rows k m) ∷ layers) page
    → HasPage (Laid (first_rows (k + n) m) ∷ layers) page
lines_more m k n lines layers page short same has = grind (arith, nat_tests, no_line, same_page, within, lies)

more_times : (h r p : Bool) (w top k n : ℕ) (f : ℕ → Bool) → (h ≡ true → (i : ℕ) → i < n → r ≡ f (k + i))
    → (h && (leb (top + k) w && (ltb (w - (top + k)) n && r)) || (h && (leb top w && (ltb (w - top) k && f (w - top))) || p)) ≡ (h && (leb top w && (ltb (w - top) (k + n) && f (w - top))) || p)
more_times h r p w top k n f e = grind (arith, λ (t : h ≡ true). e t (w - (top + k)))

-- a row that is laid many times below the first k rows of a mark
pub times_more : (m : Mark) (k n v : ℕ) (row : ℕ → Bool) (layers : List Layer) (page : Paged) → v ≡ m.top + k
    → ((u i : ℕ) → u < line_length m.area m.direction → i < n → row u ≡ m.dot u (k + i))
    → HasPage (Laid (times_mark m.area m.direction v n row) ∷ Laid (first_rows k m) ∷ layers) page
    → HasPage (Laid (first_rows (k + n) m) ∷ layers) page
times_more m k n v row layers page place same has = same_page _ _ page (λ x y. rw place (more_times (holds m.area x y) (row (along m.area m.direction x y)) (page_dot layers x y)
    (down m.area m.direction x y) m.top k n (m.dot (along m.area m.direction x y))
    (λ t i l. same (along m.area m.direction x y) i (lies m.area m.direction x y (within m.area x y t)).in_line l))) (record { laid = omega (arith, place); most = refl; least = refl }) has

abbrev pub whole : Area
whole = record { x = 0; y = 0; dx = PAPER_DOTS; dy = PAGE_ROWS }

pub all_held : (x y : ℕ) → x < PAPER_DOTS → y < PAGE_ROWS → holds whole x y ≡ true
all_held x y k h = held whole x y (record { left = omega arith; right = k; above = omega arith; below = h })

pub all_turned : (x y : ℕ) → x < PAPER_DOTS → y < PAGE_ROWS → holds (turned whole) y x ≡ true
all_turned x y k h = held (turned whole) y x (record { left = omega arith; right = h; above = omega arith; below = k })

-- a turned half that was made white
module _ (old : List (List ℕ)) (new : Paged) (long : (x : ℕ) → x < PAPER_DOTS → length (get_or new.columns x []) ≡ LINE_BYTES) (q : RowsPainted PAPER_DOTS White (holds (turned whole)) old new.columns) where
  white_column : (x y : ℕ) → x < PAPER_DOTS → y < PAGE_ROWS → dot (get_or new.columns x []) y ≡ false
  white_column x y k h =
      (q.rows_are x k).dots_are y (let n = long x k in let m = (q.rows_are x k).length_is in omega (arith, h, n, m)) ∙ ap (λ i. cond i false (dot (get_or old x []) y)) (all_turned x y k h)

  pub shown : IsShown new
  shown = record { white = white_column }

module _ (old new : Paged) (long : (x : ℕ) → x < PAPER_DOTS → length (get_or new.columns x []) ≡ LINE_BYTES) (q : RowsPainted PAPER_DOTS White (holds (turned whole)) old.columns new.columns) where
  -- all made white in both halves
  pub cleared : ((y : ℕ) → y < PAGE_ROWS → length (get_or new.rows y []) ≡ PAPER_BYTES) → RowsPainted PAGE_ROWS White (holds whole) old.rows new.rows
      → new.laid ≡ 0 → new.wiped ≤ PAGE_ROWS + PAPER_DOTS → HasPage [] new
  cleared wide p n w = record {
    rows_are = wide;
    columns_are = long;
    dots_are = λ x y k h. ap (λ b. b || dot (get_or new.columns x []) y)
        ((p.rows_are y h).dots_are x (let n = wide y h in let m = (p.rows_are y h).length_is in omega (arith, k, n, m)) ∙ ap (λ i. cond i false (dot (get_or old.rows y []) x)) (all_held x y k h))
        ∙ white_column old.columns new long q x y k h;
    work = record { laid_is = omega (arith, n); at_most = omega (arith, w); at_least = omega arith };
  }

  in_rows : (new columns i r c q : Bool) → new ≡ cond i true r → i ≡ c → columns ≡ false → (r || c) ≡ q → (new || columns) ≡ q
  in_rows new columns i r c q e s t p = grind arith

  -- what was laid along the columns turned into the rows
  pub turned_in : (layers : List Layer) → HasPage layers old → RowsPainted PAGE_ROWS Black (λ x y. ltb x PAPER_DOTS && dot (get_or old.columns x []) y) old.rows new.rows
      → new.laid ≡ old.laid → new.wiped ≡ old.wiped → HasPage layers new
  turned_in layers page p n w = record {
    rows_are = λ y h. (p.rows_are y h).length_is ∙ page.rows_are y h;
    columns_are = long;
    dots_are = λ x y k h.
        in_rows _ _ (ltb x PAPER_DOTS && dot (get_or old.columns x []) y) (dot (get_or old.rows y []) x) (dot (get_or old.columns x []) y) _
        ((p.rows_are y h).dots_are x (let long = page.rows_are y h in omega arith)) (ap (λ b. b && dot (get_or old.columns x []) y) (lt-ltb x PAPER_DOTS k)) (white_column old.columns new long q x y k h) (page.dots_are x y k h);
    work = record { laid_is = omega (arith, n, page.work.laid_is); at_most = omega (arith, w, page.work.at_most); at_least = omega (arith, w, page.work.at_least) };
  }

-- where nothing is left in the turned half, the rows show all
pub shown_dot : (layers : List Layer) (page : Paged) (x y : ℕ) → HasPage layers page → IsShown page → x < PAPER_DOTS → y < PAGE_ROWS → dot (get_or page.rows y []) x ≡ page_dot layers x y
shown_dot layers page x y has is k h = alone (dot (get_or page.rows y []) x) (dot (get_or page.columns x []) y) _ (is.white x y k h) (has.dots_are x y k h)
  where
    alone : (r c q : Bool) → c ≡ false → (r || c) ≡ q → r ≡ q
    alone r c q e p = grind arith
