-- Whole rows of a raster, laid on the page one below the other.
use Rattle.std.proofs.Common.{◌≡◌, ℕ, zero, suc, ◌+◌, ◌-◌, ◌*◌, ◌/◌, ◌<◌, ◌≤◌, Bool, true, ltb, leb, nat_lt, ◌&&◌, ◌||◌, List, [], ◌∷◌, ◌++◌, length, take, drop, min, refl, sym, ap, ◌∙◌, append_assoc, arith, Option}
use Rattle.std.proofs.Math.Nat.{suc-mul, mul_comm, mul-le-mul_right, div-le_of_le-mul, div-mul-le_self, lt-div-mul-add, le_trans}
use Rattle.std.proofs.lemmas.Bool.{lt-ltb}
use Rattle.std.proofs.lemmas.Bool.Decides.{nat_tests}
use Rattle.std.proofs.lemmas.List.{append-nil, take-append-drop, take-take, take_all, get_or-take, length-take, length-drop}
use Rattle.std.proofs.lemmas.Nat.{div-mul-add}
use Rattle.vp_dots.specs.Dots.{dot}
use Rattle.vp_esc.specs.declared.item.EscItem.{EscItem}
use Rattle.vp_esc.specs.declared.item.EscItem.TheVariants.{RasterByte}
use Rattle.vp_esc.specs.declared.item.RasterScale.{RasterScale}
use Rattle.vp_page.specs.Areas.{holds, along, down, depth}
use Rattle.vp_page.specs.Layers.{Layer, Laid, Mark, mark_dot, page_dot, first_rows}
use Rattle.vp_page.specs.Pages.{HasPage, Paged}
use Rattle.vp_page.specs.declared.area.Area.{Area}
use Rattle.vp_page.specs.declared.area.Direction.{Direction}
use Rattle.vp_page.proofs.Pages.{same_page, TakeAsMuch}
use Rattle.vp_glyph.specs.Sheets.{Sheets}
use Rattle.vp_receipt_settings.specs.Setup.{Setup}
use Rattle.vp_receipt_settings.specs.Line.{mode, line}
use Rattle.vp_receipt_settings.specs.Settings.{settings_of, page_of, IsFitPage}
use Rattle.vp_receipt_settings.specs.Texts.{text_in_force}
use Rattle.vp_receipt_settings.specs.Rasters.{times_across, times_down, raster_scale, raster_bytes, row_so_far, bytes_after, row_at}
use Rattle.vp_receipt_settings.specs.Gathering.{IsGathering, IsPartRow, room_of, left_of}
use Rattle.vp_receipt_settings.specs.Runs.{below}
use Rattle.vp_receipt_settings.specs.declared.raster.Raster.{Raster}
use Rattle.vp_receipt_settings.specs.declared.page_mode.PrinterMode.TheVariants.{Page}
use Rattle.vp_receipt_settings.specs.declared.settings.Settings.{Settings}
use Rattle.vp_receipt_settings.proofs.Runs.{after_first, AreInside, settings_same, settings_stay, line_stays, run_inside, inside}
use Rattle.vp_receipt_settings.proofs.WholeRows.{Lacks, at_end, not_end, goes, row_below, HaveRows, have_rows, fewer, are_whole, lacks_row, next_row, no_row, rows_below, after_both}
use Rattle.vp_receipt.specs.PageMarks.{mark_of, raster_mark, rows_dot, layers}
use Rattle.vp_receipt.specs.Strips.{printed}
use Rattle.vp_receipt.specs.Standing.{Gathers, IsOnPage}
use Rattle.vp_receipt.proofs.Runs.{layers_same}
use Rattle.vp_page.specs.declared.page.TheConstants.{PAGE_ROWS, PAPER_DOTS}
use Rattle.vp_page.specs.declared.line.TheConstants.{LINE_BYTES, LINE_DOTS}

-- on a page a raster's bytes print nothing
pub nothing_printed : (setup : Setup) (bytes : List ℕ) (before : List EscItem) → mode setup before ≡ Page → printed setup (bytes_after bytes before) ≡ printed setup before
nothing_printed setup [] before e = refl
nothing_printed setup (b ∷ bytes) before e = grind (arith, after_first, append-nil, nothing_printed setup bytes (RasterByte b ∷ before) e)

pub layers_stay : (setup : Setup) (bytes : List ℕ) (before : List EscItem) → AreInside bytes before → layers setup (bytes_after bytes before) ≡ layers setup before
layers_stay setup [] before in_row = refl
layers_stay setup (b ∷ bytes) before in_row = grind (arith, after_first, layers_same, layers_stay setup bytes (RasterByte b ∷ before) in_row.1)

-- a row of the raster as it is drawn
abbrev row_dot : RasterScale → List ℕ → ℕ → ℕ → Bool
row_dot scale row u w = nat_lt w (times_down scale) && dot row (u / times_across scale)

-- bytes that end the row lay it
pub row_laid_by : (setup : Setup) (bytes : List ℕ) (before : List EscItem) → Lacks bytes before
    → layers setup (bytes_after bytes before) ≡ Laid (raster_mark setup before (row_so_far before ++ bytes)) ∷ layers setup before
row_laid_by setup (b ∷ c ∷ bytes) before h =
    let more = not_end b c bytes before h in
    let go = goes b c bytes before h in
    let row : row_so_far (RasterByte b ∷ before) ++ c ∷ bytes ≡ row_so_far before ++ b ∷ c ∷ bytes =
    ap (λ xs. xs ++ c ∷ bytes) (inside b before h.rows go.room).row ∙ append_assoc (row_so_far before) (b ∷ []) (c ∷ bytes) in
    ap (layers setup) (after_first b (c ∷ bytes) before) ∙ row_laid_by setup (c ∷ bytes) (RasterByte b ∷ before) go.rest
    ∙ ap (λ xs. Laid (raster_mark setup (RasterByte b ∷ before) xs) ∷ layers setup (RasterByte b ∷ before)) row
    ∙ ap (λ (m : Mark). Laid m ∷ layers setup (RasterByte b ∷ before)) (grind (arith, row_dot, settings_same))
    ∙ ap (λ (l : List Layer). Laid (raster_mark setup before (row_so_far before ++ b ∷ c ∷ bytes)) ∷ l) (layers_same setup b before more)
row_laid_by setup bytes before h = grind (arith, at_end, h.some)

-- the rows of an area on the page
depth_small : (a : Area) (d : Direction) → a.x + a.dx ≤ PAPER_DOTS → a.y + a.dy ≤ PAGE_ROWS → depth a d ≤ PAGE_ROWS
depth_small a d h k = grind arith

-- a row below others, where it isn't past the end of the page
row_more : (h r m p : Bool) (w top k d : ℕ) → (h ≡ true → w < 65535) → (h ≡ true → top + k ≤ w → w - (top + k) < d → r ≡ m)
    → (h && (leb (min (top + k) 65535) w && (ltb (w - min (top + k) 65535) d && r)) || (h && (leb top w && (ltb (w - top) k && m)) || p))
    ≡ (h && (leb top w && (ltb (w - top) (k + d) && m)) || p)
row_more h r m p w top k d small same = grind (arith, nat_tests)

-- dots of row k
pub row_is : (scale : RasterScale) (wide n : ℕ) (bytes : List ℕ) (k u w y : ℕ) → k < n → y ≡ k * times_down scale + w → w < times_down scale
    → rows_dot scale wide n bytes u y ≡ dot (row_at bytes wide k) (u / times_across scale)
row_is scale wide n bytes k u w y few at in_row = grind (arith, mul-le-mul_right, suc-mul, lt-ltb, div-mul-add)

-- the bytes that are shown of a row have its dots
pub front_shown : (wide v : ℕ) (bytes : List ℕ) → v < LINE_DOTS → dot (take (min wide LINE_BYTES) bytes) v ≡ dot (take wide bytes) v
unfolding dot
front_shown wide v bytes h = grind (arith, take-take, get_or-take)

-- the mark of rows at the vertical position
abbrev rows_mark : Setup → List ℕ → ℕ → List EscItem → Mark
rows_mark setup bytes n before = mark_of (page_of setup before) (n * times_down (raster_scale before)) (rows_dot (raster_scale before) (raster_bytes before) n bytes)

-- the mark of the row below so many
mark_below : (setup : Setup) (bytes : List ℕ) (k : ℕ) (before : List EscItem) → (settings_of setup before).page.vertical ≤ 65535 → HaveRows bytes k before
    → raster_mark setup (bytes_after (take (k * raster_bytes before) bytes) before) (row_so_far (bytes_after (take (k * raster_bytes before) bytes) before) ++ row_at bytes (raster_bytes before) k)
    ≡ mark_of (below (settings_of setup before) (k * times_down (raster_scale before))).page (times_down (raster_scale before)) (row_dot (raster_scale before) (row_at bytes (raster_bytes before) k))
mark_below setup bytes k before small h = grind (arith, are_whole, rows_below)

module _ (setup : Setup) (bytes : List ℕ) (n : ℕ) (before : List EscItem) (small : (settings_of setup before).page.vertical ≤ 65535) (fit : IsFitPage (page_of setup before)) where
  abbrev m : Mark
  m = rows_mark setup bytes n before

  abbrev d : ℕ
  d = times_down (raster_scale before)

  on_page : (x y : ℕ) → holds m.area x y ≡ true → down m.area m.direction x y < PAGE_ROWS
  on_page x y t = grind arith

  -- so many rows one by one are the first rows of the mark
  first_laid : (k : ℕ) → k ≤ n → HaveRows bytes k before → (x y : ℕ)
      → page_dot (layers setup (bytes_after (take (k * raster_bytes before) bytes) before)) x y ≡ page_dot (Laid (first_rows (k * d) m) ∷ layers setup before) x y
  first_laid zero few h x y = grind (arith, no_row)
  first_laid (suc k) few h x y =
      let here = bytes_after (take (k * raster_bytes before) bytes) before in
      let row = row_at bytes (raster_bytes before) k in
      let less = fewer bytes k before h in
      let u = along m.area m.direction x y in
      let w = down m.area m.direction x y in
      let p = page_dot (layers setup before) x y in
      ap (λ (items : List EscItem). page_dot (layers setup items) x y) (next_row bytes (raster_bytes before) k before)
      ∙ ap (λ (l : List Layer). page_dot l x y) (row_laid_by setup row here (lacks_row bytes k before h))
      ∙ ap (λ (l : Mark). mark_dot l x y || page_dot (layers setup here) x y) (mark_below setup bytes k before small less)
      ∙ ap (λ b. mark_dot (mark_of (below (settings_of setup before) (k * d)).page d (row_dot (raster_scale before) row)) x y || b) (first_laid k (omega arith) less x y)
      ∙ row_more (holds m.area x y) (dot row (u / times_across (raster_scale before))) (m.dot u (w - m.top)) p w m.top (k * d) d
      (λ t. let i = on_page x y t in omega (arith, i))
      (λ t g l. sym (row_is (raster_scale before) (raster_bytes before) n bytes k u (w - (m.top + k * d)) (w - m.top) (omega arith) (omega arith) l))
      ∙ ap (λ q. mark_dot (first_rows q m) x y || p) (sym (suc-mul k d))

  -- and take as much
  much : (k : ℕ) → k ≤ n → HaveRows bytes k before → TakeAsMuch (layers setup (bytes_after (take (k * raster_bytes before) bytes) before)) (Laid (first_rows (k * d) m) ∷ layers setup before)
  much zero few h = grind arith
  much (suc k) few h =
      let here = bytes_after (take (k * raster_bytes before) bytes) before in
      let row = row_at bytes (raster_bytes before) k in
      let less = fewer bytes k before h in
      let above = much k (omega arith) less in
      let deep = depth_small m.area m.direction fit.across fit.down in
      rw (next_row bytes (raster_bytes before) k before, row_laid_by setup row here (lacks_row bytes k before h), mark_below setup bytes k before small less)
      (record { laid = omega (arith, above.laid, suc-mul k d, deep); most = above.most; least = above.least })

  all_shown : (x y : ℕ) → page_dot (Laid m ∷ layers setup before) x y ≡ page_dot (Laid (first_rows (n * d) m) ∷ layers setup before) x y
  all_shown x y = grind arith

  -- rows that are laid as one mark are laid one by one
  pub rows_laid : (page : Paged) → HaveRows bytes n before → HasPage (Laid m ∷ layers setup before) page
      → HasPage (layers setup (bytes_after (take (n * raster_bytes before) bytes) before)) page
  rows_laid page h has = let as_much = much n (omega arith) h in same_page _ _ page (λ x y. all_shown x y ∙ sym (first_laid n (omega arith) h x y))
      (record { laid = sym as_much.laid; most = sym as_much.most; least = sym as_much.least }) has

-- bytes within the row are kept, and leave the page as it is
pub inside_on_page : (setup : Setup) (before : List EscItem) (s : Settings) (r now : Raster) (bytes : List ℕ) (page : Paged) → length bytes ≤ room_of r → IsOnPage setup before s r page
    → IsGathering now (bytes_after bytes before) → IsOnPage setup (bytes_after bytes before) s now page
inside_on_page setup before s r now bytes page room h g = grind (arith, run_inside, settings_stay, layers_stay)

-- bytes that end the row lay it
pub row_on_page : (setup : Setup) (before : List EscItem) (s t : Settings) (r now : Raster) (bytes : List ℕ) (page new : Paged) → Lacks bytes before → IsOnPage setup before s r page
    → t ≡ below s (times_down r.scale) → IsGathering now (bytes_after bytes before) → HasPage (Laid (raster_mark setup before (row_so_far before ++ bytes)) ∷ layers setup before) new
    → IsOnPage setup (bytes_after bytes before) t now new
row_on_page setup before s t r now bytes page new lacks h e g laid = grind (arith, row_below, row_laid_by)

-- whole rows are laid
pub rows_on_page : (setup : Setup) (before : List EscItem) (s t : Settings) (r now : Raster) (bytes : List ℕ) (n : ℕ) (page new : Paged) → s.page.vertical ≤ 65535 → IsFitPage s.page
    → IsPartRow r → r.got ≡ 0 → n ≤ r.rows → n * r.bytes ≤ length bytes → IsOnPage setup before s r page → t ≡ below s (n * times_down r.scale)
    → IsGathering now (bytes_after (take (n * r.bytes) bytes) before)
    → HasPage (Laid (mark_of s.page (n * times_down r.scale) (rows_dot r.scale r.bytes n bytes)) ∷ layers setup before) new
    → IsOnPage setup (bytes_after (take (n * r.bytes) bytes) before) t now new
rows_on_page setup before s t r now bytes n page new small fit part begins few long h e g laid =
    let have = have_rows r n bytes before part begins few h.raster long in
    let low = rw h.settings at small in
    record {
      settings = grind (arith, e, h.settings, h.raster.scale, h.raster.bytes, rows_below setup bytes n before low have);
      raster = g;
      page = rw h.raster.bytes (rows_laid setup bytes n before low (rw h.settings at fit) new have (rw (h.settings, h.raster.scale, h.raster.bytes) at laid));
    }

pub rest_whole : (bytes : List ℕ) (n : ℕ) → take (length bytes - n) (drop n bytes) ≡ drop n bytes
rest_whole bytes n = take_all (length bytes - n) (drop n bytes) (omega (arith, length-drop n bytes))

-- the bytes behind others
pub rest_on_page : (setup : Setup) (before : List EscItem) (s : Settings) (r : Raster) (bytes : List ℕ) (n : ℕ) (page : Paged)
    → IsOnPage setup (bytes_after (take (length bytes - n) (drop n bytes)) (bytes_after (take n bytes) before)) s r page → IsOnPage setup (bytes_after bytes before) s r page
rest_on_page setup before s r bytes n page h = rw (← take-append-drop n bytes, after_both) (rw rest_whole at h)

-- bytes of which so many rows are taken, all that they have
pub record Taken (r : Raster) (long n : ℕ) : Type 0 where
  pub few : n ≤ r.rows
  pub bytes : n * r.bytes ≤ long
  pub rest : long - n * r.bytes ≤ room_of (record r { rows = r.rows - n })

pub taken : (r : Raster) (long n : ℕ) → IsPartRow r → r.got ≡ 0 → 0 < long → long ≤ left_of r → n ≡ min r.rows (long / r.bytes) → Taken r long n
taken r long n part begins some room is = grind (arith, div-le_of_le-mul, mul_comm, lt-div-mul-add, nat_tests, div-mul-le_self)

pub rest_fits : (r now : Raster) (bytes : List ℕ) (n wide : ℕ) → Taken r (length bytes) n → wide ≡ r.bytes → now ≡ record r { rows = r.rows - n }
    → length (take (length bytes - n * wide) (drop (n * wide) bytes)) ≤ room_of now
rest_fits r now bytes n wide t is e = grind (arith, length-take, le_trans)

-- a row that has begun lacks one byte more than come before its last
pub row_whole : (r : Raster) → IsPartRow r → (r.got ≡ 0 → ⊥) → r.got + (room_of r + 1) ≡ r.bytes
row_whole r part begun = grind arith

-- the line stays where it is gathered
text_stays : (bytes : List ℕ) (before : List EscItem) → text_in_force (bytes_after bytes before) ≡ text_in_force before
text_stays [] before = refl
text_stays (b ∷ bytes) before = ap text_in_force (after_first b bytes before) ∙ text_stays bytes (RasterByte b ∷ before)

pub gathers_still : (setup : Setup) (bytes : List ℕ) (before : List EscItem) (sheets : Sheets) (s t : Settings) (bitmap : List (List ℕ)) (waiting : Option ℕ) → s ≡ settings_of setup before
    → t ≡ settings_of setup (bytes_after bytes before) → Gathers sheets s bitmap waiting (line setup before) → Gathers sheets t bitmap waiting (line setup (bytes_after bytes before))
gathers_still setup bytes before sheets s t bitmap waiting e f h = grind (arith, line_stays, text_stays)
