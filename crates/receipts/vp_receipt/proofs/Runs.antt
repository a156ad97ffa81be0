-- What bytes of a raster that don't end its row leave alone: the page, and what is printed.
use Rattle.std.proofs.lemmas.Grind.{common_steps}
use Rattle.std.proofs.Common.{◌≡◌, ℕ, ◌+◌, ◌<◌, ◌≤◌, false, List, [], ◌∷◌, ◌++◌, length, refl, sym, ap, ◌∙◌, arith, length-append, subst, if◌then◌else◌}
use Rattle.vp_page.specs.Pages.{Paged}
use Rattle.std.proofs.lemmas.List.{append-nil}
use Rattle.vp_esc.specs.declared.item.EscItem.{EscItem}
use Rattle.vp_esc.specs.declared.item.EscItem.TheVariants.{RasterByte}
use Rattle.vp_receipt_settings.specs.Setup.{Setup}
use Rattle.vp_receipt_settings.specs.Line.{mode}
use Rattle.vp_receipt_settings.specs.declared.raster.Raster.{Raster}
use Rattle.vp_receipt_settings.specs.Rasters.{raster_bytes, rows_to_come, row_so_far, is_row_end, bytes_after}
use Rattle.vp_receipt.specs.Strips.{printed}
use Rattle.vp_receipt_settings.specs.Pages.{is_paged}
use Rattle.vp_receipt.specs.PageMarks.{layers}
use Rattle.vp_page.specs.Layers.{Layer}
use Rattle.vp_receipt_settings.specs.declared.page_mode.PrinterMode.{PrinterMode}
use Rattle.vp_receipt_settings.specs.Gathering.{IsGathering, room_of}
use Rattle.vp_receipt.specs.Standing.{HasPageIf}
use Rattle.vp_receipt_settings.proofs.Runs.{after_first, AreInside, goes_on, inside}

pub layers_same : (setup : Setup) (b : ℕ) (before : List EscItem) → is_row_end before ≡ false → layers setup (RasterByte b ∷ before) ≡ layers setup before
layers_same setup b before e = rw e refl

pub page_stays : (setup : Setup) (bytes : List ℕ) (before : List EscItem) (page : Paged) → AreInside bytes before → HasPageIf (mode setup before) (layers setup before) page
    → HasPageIf (mode setup (bytes_after bytes before)) (layers setup (bytes_after bytes before)) page
page_stays setup [] before page in_row h = h
page_stays setup (b ∷ bytes) before page in_row h = grind (arith, after_first, layers_same, page_stays setup bytes (RasterByte b ∷ before) page in_row.1 (subst (λ (l : List Layer). HasPageIf (mode setup before) l page) (sym (layers_same setup b before in_row.0)) h))

pub nothing_by : (m : PrinterMode) → ◌≡◌ {A = List ℕ} ((if is_paged m then [] else []) ++ (if is_paged m then [] else [])) []
nothing_by m = grind arith

prints_nothing : (setup : Setup) (bytes : List ℕ) (before : List EscItem) → 0 < rows_to_come before → length (row_so_far before) + length bytes < raster_bytes before
    → printed setup (bytes_after bytes before) ≡ printed setup before
prints_nothing setup [] before some room = refl
prints_nothing setup (b ∷ bytes) before some room =
    let one = inside b before some (omega arith) in
    ap (printed setup) (after_first b bytes before)
    ∙ prints_nothing setup bytes (RasterByte b ∷ before) (omega (arith, one.rows)) (omega (arith, ap length one.row, length-append (row_so_far before) (b ∷ [])))
    ∙ (grind (arith, nothing_by, append-nil, goes_on))

-- bytes that there is room for print nothing
pub paper_stays : (setup : Setup) (r : Raster) (bytes : List ℕ) (before : List EscItem) → length bytes ≤ room_of r → IsGathering r before → printed setup (bytes_after bytes before) ≡ printed setup before
paper_stays setup r bytes before h1 h2 = grind (arith, common_steps, prints_nothing)
