-- The rows of a raster, from the bytes that are kept of each.
use Rattle.std.proofs.Common.{◌≡◌, ℕ, ◌-◌, ◌*◌, ◌/◌, ◌%◌, ◌<◌, ◌&&◌, ltb, nat_le, nat_lt, Bool, true, ap, ◌∙◌, arith, List, ◌∷◌, length, take, subst}
use Rattle.std.proofs.Math.Nat.{div-le_self}
use Rattle.std.proofs.lemmas.Bool.{lt-ltb, le-ltb, ltb-true, and_parts}
use Rattle.std.proofs.lemmas.List.{get_or-take, length-take}
use Rattle.vp_dots.specs.Dots.{dot, bit}
use Rattle.vp_dots.specs.Images.{row_of}
use Rattle.vp_dots.proofs.ImageRows.{dot-row_of}
use Rattle.vp_esc.specs.declared.item.EscItem.{EscItem}
use Rattle.vp_receipt_settings.specs.declared.settings.Settings.{Settings}
use Rattle.vp_receipt_settings.specs.Setup.{Setup}
use Rattle.vp_receipt_settings.specs.Settings.{settings_of, page_of, paper_length, printed_at}
use Rattle.vp_strips.specs.Rows.{clipped, raster_dot, rows_text}
use Rattle.vp_strips.proofs.Strips.{rows_same}
use Rattle.vp_esc.specs.declared.item.RasterScale.{RasterScale}
use Rattle.vp_page.specs.Layers.{Layer, Laid}
use Rattle.vp_page.specs.Lines.{line_dot}
use Rattle.vp_page.specs.Pages.{HasPage, Paged}
use Rattle.vp_page.proofs.Squares.{no_line}
use Rattle.vp_receipt_settings.specs.declared.page_mode.PageSettings.{PageSettings}
use Rattle.vp_receipt.specs.PageMarks.{mark_of, raster_mark}
use Rattle.vp_receipt_settings.specs.Rasters.{times_across, times_down, raster_scale}
use Rattle.vp_page.specs.declared.line.TheConstants.{LINE_BYTES, LINE_DOTS}
use Rattle.vp_page.specs.declared.page.TheConstants.{PAPER_BYTES}

-- the first 208 bytes have the dots that paper and pages show
pub dot_kept : (came : List ℕ) (d : ℕ) → d < LINE_DOTS → dot (take LINE_BYTES came) d ≡ dot came d
unfolding dot
dot_kept came d h = ap (λ b. bit b (7 - d % 8)) (get_or-take LINE_BYTES came (d / 8) 0 (omega arith))

pub rows_shown : (setup : Setup) (before : List EscItem) (s : Settings) (kept came row : List ℕ) (left length times bytes n : ℕ) → s ≡ settings_of setup before → left ≡ printed_at setup before (8 * bytes * times) → length ≡ paper_length setup before →
    kept ≡ take LINE_BYTES came → row ≡ row_of PAPER_BYTES (clipped left length (λ x. dot kept (x / times))) → rows_text s.paper (λ x y. dot row x) 0 n ≡ rows_text setup.width (λ x y. raster_dot setup before times bytes came x) 0 n
rows_shown setup before s kept came row left length times bytes n e left_is long_is kept_is row_is =
    rows_same s.paper (λ x y. dot row x) (λ x y. raster_dot setup before times bytes came x) 0 n (λ x y h.
    ap (λ (r : List ℕ). dot r x) row_is ∙ dot-row_of PAPER_BYTES (clipped left length (λ x. dot kept (x / times))) x h
    ∙ ap (λ b. nat_le left x && nat_lt (x - left) length && b) (ap (λ (r : List ℕ). dot r ((x - left) / times)) kept_is
    ∙ dot_kept came ((x - left) / times) (let le = div-le_self (x - left) times in omega arith))
    ∙ ap (λ l. clipped l length (λ x. dot came (x / times)) x) left_is ∙ ap (λ n. clipped (printed_at setup before (8 * bytes * times)) n (λ x. dot came (x / times)) x) long_is)
    ∙ ap (λ (q : Settings). rows_text q.paper (λ x y. raster_dot setup before times bytes came x) 0 n) e

pub laid_row : (setup : Setup) (before : List EscItem) (s : Settings) (scale : RasterScale) (came kept : List ℕ) (layers : List Layer) (page : Paged) → s ≡ settings_of setup before → scale ≡ raster_scale before
    → kept ≡ take LINE_BYTES came
    → ((dots : ℕ → ℕ → Bool) → ((u w : ℕ) → u < LINE_DOTS → w < times_down scale → dot kept (u / times_across scale) ≡ dots u w) → ((u w : ℕ) → dots u w ≡ true → w < times_down scale) → HasPage (Laid (mark_of s.page (times_down scale) dots) ∷ layers) page)
    → HasPage (Laid (raster_mark setup before came) ∷ layers) page
laid_row setup before s scale came kept layers page e scale_is kept_is laid =
    subst (λ (k : RasterScale). HasPage (Laid (mark_of (page_of setup before) (times_down k) (λ u w. nat_lt w (times_down k) && dot came (u / times_across k))) ∷ layers) page) scale_is
    (subst (λ (p : PageSettings). HasPage (Laid (mark_of p (times_down scale) (λ u w. nat_lt w (times_down scale) && dot came (u / times_across scale))) ∷ layers) page) (ap (λ (q : Settings). q.page) e)
    (laid (λ u w. nat_lt w (times_down scale) && dot came (u / times_across scale)) (grind (arith, dot_kept, div-le_self, lt-ltb)) (λ u w h. ltb-true w (times_down scale) (and_parts _ _ h).0)))

-- the first lines
pub shown_line : (lines : List (List ℕ)) (n i u : ℕ) → line_dot (take n lines) i u ≡ (ltb i n && line_dot lines i u)
shown_line lines n i u = grind (arith, lt-ltb, get_or-take, le-ltb, no_line, length-take)
