-- The dots of a page.
use Rattle.std.specs.Prelude.{◌≡◌, ◌<◌, ℕ, false, ◌||◌, List, [], length, slice_index_or}
use Rattle.vp_dots.specs.Dots.{dot}
use Rattle.vp_page.specs.declared.line.TheConstants.{LINE_BYTES}
use Rattle.vp_page.specs.declared.page.TheConstants.{PAPER_DOTS, PAPER_BYTES, PAGE_ROWS}
use Rattle.vp_page.specs.Layers.{Layer, page_dot}
use Rattle.vp_page.specs.Work.{IsCounted}

-- the rows of a page's upright half, and those of its turned half, which are columns of the page; how many
-- rows were laid on it and made white since they were last counted anew
pub record Paged : Type 0 where
  pub rows : List (List ℕ)
  pub columns : List (List ℕ)
  pub laid : ℕ
  pub wiped : ℕ

-- rows as wide as the wide paper and columns as long as the page, the dots of both of which are together
-- those of the layers, and the count of what that took
pub record HasPage (layers : List Layer) (page : Paged) : Type 0 where
  pub rows_are : (y : ℕ) → y < PAGE_ROWS → length (slice_index_or page.rows y []) ≡ PAPER_BYTES
  pub columns_are : (x : ℕ) → x < PAPER_DOTS → length (slice_index_or page.columns x []) ≡ LINE_BYTES
  pub dots_are : (x y : ℕ) → x < PAPER_DOTS → y < PAGE_ROWS →
      (dot (slice_index_or page.rows y []) x || dot (slice_index_or page.columns x []) y)
      ≡ page_dot layers x y
  pub work : IsCounted layers page.laid page.wiped

-- no dot of the turned half is black, so that the rows of the upright one show all
pub record IsShown (page : Paged) : Type 0 where
  pub white : (x y : ℕ) → x < PAPER_DOTS → y < PAGE_ROWS → dot (slice_index_or page.columns x []) y ≡ false
