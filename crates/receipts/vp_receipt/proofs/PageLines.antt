-- The line and the page: what a bitmap lays, and the rows that are printed.
use Rattle.std.proofs.Common.{◌≡◌, ℕ, zero, suc, ◌+◌, ◌-◌, ◌<◌, ◌≤◌, Bool, true, refl, sym, ap, subst, ◌∙◌, arith, List, [], ◌∷◌, ◌++◌, ◌==◌, if◌then◌else◌, eq-eqb}
use Rattle.std.proofs.lemmas.Bool.{lt-ltb, le-leb, and_parts, ltb-true, ne_eqb}
use Rattle.vp_dots.specs.Headers.{header_of}
use Rattle.vp_esc.specs.declared.item.EscItem.{EscItem}
use Rattle.vp_page.specs.declared.area.Area.{Area}
use Rattle.vp_page.specs.declared.area.Direction.{Direction}
use Rattle.vp_page.specs.Areas.{line_length as length_on_page}
use Rattle.vp_page.specs.Layers.{Layer, Laid, page_dot}
use Rattle.vp_page.specs.Pages.{HasPage, IsShown, Paged}
use Rattle.vp_page.proofs.Pages.{shown_dot}
use Rattle.vp_receipt_settings.specs.declared.width.Width.{Width}
use Rattle.vp_receipt_settings.specs.declared.settings.Settings.{Settings}
use Rattle.vp_receipt_settings.specs.Setup.{Setup, across}
use Rattle.vp_strips.specs.Canvases.{Canvas}
use Rattle.vp_strips.specs.declared.strip.Dots.TheVariants.{Page as PageDots}
use Rattle.vp_receipt_settings.specs.declared.page_mode.PrinterMode.{PrinterMode}
use Rattle.vp_receipt_settings.specs.declared.page_mode.PrinterMode.TheVariants.{Page}
use Rattle.vp_strips.specs.Held.{whole}
use Rattle.vp_receipt.specs.Standing.{HasPageIf, IsSettled}
use Rattle.vp_receipt_settings.specs.Line.{line, is_open, mode}
use Rattle.vp_receipt_settings.specs.Settings.{settings_of}
use Rattle.vp_strips.specs.LineDots.{HasDots}
use Rattle.vp_receipt.specs.PageMarks.{HasRows, mark_of, line_dot, line_mark, laid_if, layers}
use Rattle.vp_strips.specs.Rows.{paper_row, rows_text, strip_text}
use Rattle.vp_strips.specs.Jobs.{page_dot_of}
use Rattle.vp_strips.proofs.Rows.{paper_row_same}
use Rattle.vp_strips.proofs.LineTexts.{raised}
use Rattle.vp_strips.proofs.Strips.{text_of_rows}
use Rattle.vp_page.specs.declared.page.TheConstants.{PAGE_ROWS, PAPER_DOTS}
use Rattle.vp_page.specs.declared.line.TheConstants.{LINE_DOTS}
use Rattle.vp_receipt_settings.specs.declared.text.TheConstants.{LINE_ROWS}

-- a line of an area on the page is at most as long as the page is high
pub length_small : (a : Area) (d : Direction) → a.x + a.dx ≤ PAPER_DOTS → a.y + a.dy ≤ PAGE_ROWS → length_on_page a d ≤ LINE_DOTS
length_small a d h k = grind arith

rows_up_to : (paper : Width) (f g : ℕ → ℕ → Bool) (y n : ℕ) → y + n ≤ PAGE_ROWS → ((x y : ℕ) → x < PAPER_DOTS → y < PAGE_ROWS → f x y ≡ g x y) → rows_text paper f y n ≡ rows_text paper g y n
rows_up_to paper f g y zero l h = refl
rows_up_to paper f g y (suc n) l h = ap (λ r. r ++ rows_text paper f (y + 1) n) (paper_row_same paper (λ x. f x y) (λ x. g x y) (λ x k. h x y k (omega arith))) ∙ ap (λ r. paper_row paper (λ x. g x y) ++ r) (rows_up_to paper f g (y + 1) n (omega arith) h)

strip_shown : (paper : Width) (layers : List Layer) (canvas : Canvas) (rows : ℕ) → rows ≤ PAGE_ROWS → HasPage layers canvas.page → IsShown canvas.page → (rows ≡ 0 → ⊥)
    → whole (record { paper = paper; tall = rows; rows = rows; dots = PageDots }) canvas ≡ strip_text paper rows (page_dot layers)
strip_shown paper layers canvas rows h has shown some =
    ap (λ k. header_of (across paper) rows ++ rows_text paper (page_dot_of canvas.page.rows) 0 k) (let z : rows - 0 ≡ rows = omega arith in z)
    ∙ ap (λ r. header_of (across paper) rows ++ r) (rows_up_to paper (page_dot_of canvas.page.rows) (page_dot layers) 0 rows (omega arith) (λ x y k l. grind (arith, lt-ltb, le-leb, shown_dot layers canvas.page x y has shown k l)))
    ∙ text_of_rows paper rows (page_dot layers) some

-- the strip of the page
pub page_strip : (paper : Width) (layers : List Layer) (canvas : Canvas) (rows : ℕ) → rows ≤ PAGE_ROWS → HasPage layers canvas.page → IsShown canvas.page
    → (if rows == 0 then [] else whole (record { paper = paper; tall = rows; rows = rows; dots = PageDots }) canvas) ≡ strip_text paper rows (page_dot layers)
page_strip paper layers' canvas rows h has shown = grind (arith, eq-eqb, ne_eqb, strip_shown)

pub has_page : (m : PrinterMode) (layers : List Layer) (page : Paged) → HasPage layers page → HasPageIf m layers page
has_page m layers' page h = grind arith

-- the line that is laid
pub line_laid : (setup : Setup) (before : List EscItem) (s : Settings) (bitmap : List (List ℕ)) (page : Paged) (layers : List Layer) → s ≡ settings_of setup before → s.height ≤ LINE_ROWS → s.is_open ≡ true
    → (is_open (line setup before) ≡ true → HasDots (line setup before) bitmap)
    → (HasRows s bitmap (line_dot (line setup before)) → HasPage (Laid (mark_of s.page s.height (line_dot (line setup before))) ∷ layers) page)
    → HasPage (laid_if (is_open (line setup before)) (line_mark setup before) layers) page
line_laid setup before s bitmap page layers' e small o has laid = grind (arith, raised, lt-ltb, ltb-true, and_parts)

pub mode_is : (setup : Setup) (before : List EscItem) (s : Settings) (m : PrinterMode) → s ≡ settings_of setup before → s.page.mode ≡ m → mode setup before ≡ m
mode_is setup before s m e is = sym (ap (λ (q : Settings). q.page.mode) e) ∙ is

-- what is settled has its page in page mode
pub page_held : (setup : Setup) (before : List EscItem) (s : Settings) (canvas : Canvas) → IsSettled setup before s canvas → s.page.mode ≡ Page → HasPage (layers setup before) canvas.page
page_held setup before s canvas h is = subst (λ (m : PrinterMode). HasPageIf m (layers setup before) canvas.page) (mode_is setup before s Page h.settings is) h.page
