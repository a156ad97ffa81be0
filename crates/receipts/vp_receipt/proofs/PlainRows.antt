-- Rows of a raster that are printed as they come.
use Rattle.std.proofs.Common.{◌≡◌, ℕ, zero, suc, ◌-◌, ◌*◌, ◌/◌, ◌<◌, ◌≤◌, ◌^◌, Bool, true, nat_lt, nat_le, ◌&&◌, List, [], ◌∷◌, ◌++◌, length, take, drop, min, refl, sym, ap, subst, ◌∙◌, append_assoc, arith, get_or}
use Rattle.vp_page.specs.Pages.{Paged}
use Rattle.std.proofs.Math.Nat.{suc-mul}
use Rattle.std.proofs.Math.Seq.{take-add}
use Rattle.std.proofs.lemmas.Bool.{and_parts, eqb-true}
use Rattle.std.proofs.lemmas.Bool.Decides.{nat_tests}
use Rattle.std.proofs.lemmas.List.{append-nil, take-append-drop, length-take, get_or-take, get_or-drop, get_or_past}
use Rattle.vp_dots.specs.Dots.{dot}
use Rattle.vp_dots.proofs.ImageRows.{row_is}
use Rattle.vp_esc.specs.declared.item.EscItem.{EscItem}
use Rattle.vp_esc.specs.declared.item.EscItem.TheVariants.{RasterByte}
use Rattle.vp_esc.specs.declared.item.RasterScale.{RasterScale}
use Rattle.vp_esc.specs.declared.item.RasterScale.TheVariants.{Normal}
use Rattle.vp_receipt_settings.specs.declared.page_mode.PrinterMode.TheVariants.{Standard}
use Rattle.vp_receipt_settings.specs.declared.raster.Raster.{Raster}
use Rattle.vp_receipt_settings.specs.declared.settings.Settings.{Settings}
use Rattle.vp_receipt_settings.proofs.Widths.{dots_across, some_bytes}
use Rattle.vp_receipt_settings.specs.Gathering.{IsGathering, IsPartRow, room_of}
use Rattle.vp_receipt_settings.specs.Line.{mode}
use Rattle.vp_receipt_settings.specs.Settings.{settings_of, paper_length, printed_at}
use Rattle.vp_receipt_settings.specs.Rasters.{raster_scale, raster_bytes, row_so_far, bytes_after, row_at, times_across, times_down}
use Rattle.vp_receipt_settings.specs.Runs.{below}
use Rattle.vp_receipt_settings.specs.Setup.{Setup, across, row_bytes}
use Rattle.vp_receipt_settings.proofs.Runs.{after_first, settings_stay, run_inside, inside}
use Rattle.vp_receipt_settings.proofs.WholeRows.{Lacks, at_end, not_end, goes, HaveRows, have_rows, fewer, are_whole, lacks_row, next_row, no_row, rows_below, after_both}
use Rattle.vp_strips.specs.Rows.{paper_row, rows_text, raster_dot}
use Rattle.vp_receipt.specs.Plain.{is_plain, IsOnPaper}
use Rattle.vp_receipt.specs.PageMarks.{layers}
use Rattle.vp_receipt.specs.Standing.{HasPageIf}
use Rattle.vp_receipt.specs.Strips.{printed, raster_row_text}
use Rattle.vp_receipt.proofs.PageRows.{Taken}
use Rattle.vp_receipt.proofs.RowEnds.{row_printed}
use Rattle.vp_receipt.proofs.Runs.{paper_stays}

-- bytes that end a row print it
row_printed_by : (setup : Setup) (bytes : List ℕ) (before : List EscItem) → mode setup before ≡ Standard → Lacks bytes before
    → printed setup (bytes_after bytes before) ≡ printed setup before ++ raster_row_text setup before (row_so_far before ++ bytes)
row_printed_by setup (b ∷ c ∷ bytes) before e h =
    let go = goes b c bytes before h in
    let row : row_so_far (RasterByte b ∷ before) ++ c ∷ bytes ≡ row_so_far before ++ b ∷ c ∷ bytes = ap (λ xs. xs ++ c ∷ bytes) (inside b before h.rows go.room).row ∙ append_assoc (row_so_far before) (b ∷ []) (c ∷ bytes) in
    let first : printed setup (RasterByte b ∷ before) ≡ printed setup before = grind (arith, append-nil, not_end) in
    ap (printed setup) (after_first b (c ∷ bytes) before) ∙ row_printed_by setup (c ∷ bytes) (RasterByte b ∷ before) e go.rest
    ∙ ap (λ xs. printed setup (RasterByte b ∷ before) ++ raster_row_text setup before xs) row
    ∙ ap (λ x. x ++ raster_row_text setup before (row_so_far before ++ b ∷ c ∷ bytes)) first
row_printed_by setup bytes before e h = grind (arith, at_end, row_printed, h.some)

-- what is in force where rows are printed as they come
pub record IsPlain (setup : Setup) (before : List EscItem) : Type 0 where
  pub mode : mode setup before ≡ Standard
  pub scale : raster_scale before ≡ Normal
  pub wide : raster_bytes before ≡ row_bytes setup.width
  pub free : paper_length setup before ≡ across setup.width

still_plain : (setup : Setup) (bytes : List ℕ) (before : List EscItem) → IsPlain setup before → IsPlain setup (bytes_after bytes before)
still_plain setup [] before h = h
still_plain setup (b ∷ bytes) before h = grind (arith, after_first, still_plain setup bytes (RasterByte b ∷ before) (record { mode = h.mode; scale = h.scale; wide = h.wide; free = h.free }))

-- nothing moves what is as wide as the paper
at_left : (setup : Setup) (before : List EscItem) (wide : ℕ) → IsPlain setup before → wide ≡ across setup.width → printed_at setup before wide ≡ 0
at_left setup before wide h e = grind (arith, some_bytes, dots_across)

seen : (left long d : ℕ) (b c : Bool) → left ≡ 0 → d < long → b ≡ c → b ≡ (nat_le left d && nat_lt (d - left) long && c)
seen left long d b c e h same = grind (arith, nat_tests)

-- a row as wide as the paper is its bytes
plain_row : (setup : Setup) (before : List EscItem) (row : List ℕ) → IsPlain setup before → length row ≡ row_bytes setup.width → ((i : ℕ) → get_or row i 0 < 2 ^ 8)
    → raster_row_text setup before row ≡ row
unfolding paper_row
plain_row setup before row h long fits =
    let dots = dots_across setup.width in
    let left = at_left setup before (8 * raster_bytes before * 1) h (omega (arith, h.wide, dots)) in
    let shown : ℕ → Bool = λ x. raster_dot setup before 1 (raster_bytes before) row x in
    let same : (d : ℕ) → d < 8 * row_bytes setup.width → dot row d ≡ shown d = λ d l.
    let once : d - printed_at setup before (8 * raster_bytes before * 1) ≡ d = omega (arith, left) in
    let one : d ≡ (d - printed_at setup before (8 * raster_bytes before * 1)) / 1 = omega (arith, once) in
    seen (printed_at setup before (8 * raster_bytes before * 1)) (paper_length setup before) d (dot row d) _ left (omega (arith, h.free, dots, l)) (ap (dot row) one) in
    ap (λ (k : RasterScale). rows_text setup.width (λ x y. raster_dot setup before (times_across k) (raster_bytes before) row x) 0 (times_down k)) h.scale
    ∙ append-nil (paper_row setup.width shown)
    ∙ sym (row_is row (row_bytes setup.width) shown long fits same)

front_fits : (w : ℕ) (xs : List ℕ) (i : ℕ) → ((i : ℕ) → get_or xs i 0 < 2 ^ 8) → get_or (take w xs) i 0 < 2 ^ 8
front_fits w xs i fits = grind (arith, get_or-take, get_or_past, length-take)

-- so many rows print their bytes
rows_printed : (setup : Setup) (bytes : List ℕ) (k : ℕ) (before : List EscItem) → ((i : ℕ) → get_or bytes i 0 < 2 ^ 8) → IsPlain setup before → HaveRows bytes k before
    → printed setup (bytes_after (take (k * raster_bytes before) bytes) before) ≡ printed setup before ++ take (k * raster_bytes before) bytes
rows_printed setup bytes zero before fits plain h = grind (arith, no_row, append-nil)
rows_printed setup bytes (suc k) before fits plain h =
    let w = raster_bytes before in
    let above_bytes = take (k * w) bytes in
    let here = bytes_after above_bytes before in
    let row = row_at bytes w k in
    let less = fewer bytes k before h in
    let above = are_whole bytes k before less in
    let here_plain = still_plain setup above_bytes before plain in
    let lacks = lacks_row bytes k before h in
    let long : length row ≡ row_bytes setup.width = omega (arith, lacks.all, ap length above.row, above.width, plain.wide) in
    ap (printed setup) (next_row bytes w k before)
    ∙ row_printed_by setup row here here_plain.mode lacks
    ∙ ap (λ xs. printed setup here ++ raster_row_text setup here (xs ++ row)) above.row
    ∙ ap (λ x. printed setup here ++ x) (plain_row setup here row here_plain long (λ i. front_fits w (drop (k * w) bytes) i (grind (arith, get_or-drop))))
    ∙ ap (λ x. x ++ row) (rows_printed setup bytes k before fits plain less)
    ∙ append_assoc (printed setup before) above_bytes row
    ∙ ap (λ x. printed setup before ++ x) (sym (ap (λ n. take n bytes) (suc-mul k w) ∙ take-add (k * w) w bytes))

-- what the test tells
pub record Told (s : Settings) (r : Raster) : Type 0 where
  pub begins : r.got ≡ 0
  pub mode : s.page.mode ≡ Standard
  pub scale : r.scale ≡ Normal
  pub wide : r.bytes ≡ row_bytes s.paper
  pub free : min s.area_width (across s.paper - s.left_margin) ≡ across s.paper
  pub some : 0 < r.bytes

pub told : (s : Settings) (r : Raster) → is_plain s r ≡ true → Told s r
told s r h = grind (arith, and_parts, eqb-true, some_bytes)

-- whole rows are put out, and what is left is kept
pub rows_on_paper : (setup : Setup) (before : List EscItem) (s : Settings) (r now : Raster) (t : Settings) (last : Raster) (bytes : List ℕ) (n end : ℕ) → ((i : ℕ) → get_or bytes i 0 < 2 ^ 8) → s.page.vertical ≤ 65535
    → IsPartRow r → Told s r → Taken r (length bytes) n → end ≡ n * r.bytes → s ≡ settings_of setup before → IsGathering r before → t ≡ below s n
    → IsGathering now (bytes_after (take end bytes) before) → length (drop end bytes) ≤ room_of now
    → IsGathering last (bytes_after (drop end bytes) (bytes_after (take end bytes) before))
    → IsOnPaper setup before t last bytes end
rows_on_paper setup before s r now t last bytes n end fits small part told taken at e g f passed room kept =
    let here = bytes_after (take end bytes) before in
    let all : bytes_after bytes before ≡ bytes_after (drop end bytes) here = ap (λ xs. bytes_after xs before) (sym (take-append-drop end bytes)) ∙ after_both (take end bytes) (drop end bytes) before in
    let shown : printed setup here ≡ printed setup before ++ take end bytes = grind (arith, rows_printed, have_rows) in
    record {
      settings = grind (arith, settings_stay, run_inside, rows_below);
      raster = subst (IsGathering last) (sym all) kept;
      printed = ap (printed setup) all ∙ paper_stays setup now (drop end bytes) here room passed ∙ shown;
    }

mode_stays : (setup : Setup) (bytes : List ℕ) (before : List EscItem) → mode setup (bytes_after bytes before) ≡ mode setup before
mode_stays setup [] before = refl
mode_stays setup (b ∷ bytes) before = ap (mode setup) (after_first b bytes before) ∙ mode_stays setup bytes (RasterByte b ∷ before)

-- on paper no page is asked for
pub no_page : (setup : Setup) (bytes : List ℕ) (before : List EscItem) (page : Paged) → mode setup before ≡ Standard
    → HasPageIf (mode setup (bytes_after bytes before)) (layers setup (bytes_after bytes before)) page
no_page setup bytes before page e = grind (arith, mode_stays)
