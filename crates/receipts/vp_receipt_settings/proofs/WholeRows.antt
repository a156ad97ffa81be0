-- Bytes of a raster that make rows whole.
use Rattle.std.proofs.Common.{◌≡◌, ℕ, zero, suc, ◌+◌, ◌-◌, ◌*◌, ◌<◌, ◌≤◌, nat_lt, eqb, true, false, List, [], ◌∷◌, ◌++◌, length, take, drop, min, refl, sym, ap, subst, ◌∙◌, arith, length-append}
use Rattle.std.proofs.Math.Nat.{suc-mul}
use Rattle.std.proofs.Math.Seq.{take-add}
use Rattle.std.proofs.lemmas.Bool.{eq-eqb, lt-ltb}
use Rattle.std.proofs.lemmas.List.{length-take-le, length-drop}
use Rattle.vp_esc.specs.declared.item.EscItem.{EscItem}
use Rattle.vp_esc.specs.declared.item.EscItem.TheVariants.{RasterByte}
use Rattle.vp_esc.specs.declared.item.RasterScale.{RasterScale}
use Rattle.vp_receipt_settings.specs.Setup.{Setup}
use Rattle.vp_receipt_settings.specs.Gathering.{IsGathering, IsPartRow}
use Rattle.vp_receipt_settings.specs.Settings.{settings_of}
use Rattle.vp_receipt_settings.specs.Pages.{vertical_after}
use Rattle.vp_receipt_settings.specs.Rasters.{times_down, raster_scale, raster_bytes, rows_to_come, row_so_far, is_row_end, bytes_after, row_at}
use Rattle.vp_receipt_settings.specs.Runs.{below}
use Rattle.vp_receipt_settings.specs.declared.raster.Raster.{Raster}
use Rattle.vp_receipt_settings.specs.declared.settings.Settings.{Settings}
use Rattle.vp_receipt_settings.proofs.Runs.{after_first, settings_same, goes_on, inside}
use Rattle.vp_page.specs.declared.line.TheConstants.{LINE_BYTES}

-- bytes after others
pub after_both : (xs ys : List ℕ) (before : List EscItem) → bytes_after (xs ++ ys) before ≡ bytes_after ys (bytes_after xs before)
after_both [] ys before = refl
after_both (x ∷ xs) ys before = grind (arith, after_first, after_both xs ys (RasterByte x ∷ before))

-- some bytes, with which the row is whole
pub record Lacks (bytes : List ℕ) (before : List EscItem) : Type 0 where
  pub rows : 0 < rows_to_come before
  pub some : 0 < length bytes
  pub all : length (row_so_far before) + length bytes ≡ raster_bytes before

-- the first of them, where more come
pub record Goes (b : ℕ) (bytes : List ℕ) (before : List EscItem) : Type 0 where
  pub room : length (row_so_far before) + 1 < raster_bytes before
  pub rest : Lacks bytes (RasterByte b ∷ before)

pub goes : (b c : ℕ) (bytes : List ℕ) (before : List EscItem) → Lacks (b ∷ c ∷ bytes) before → Goes b (c ∷ bytes) before
goes b c bytes before h = grind (arith, inside, length-append)

last_is : (b : ℕ) (before : List EscItem) → Lacks (b ∷ []) before → eqb (length (row_so_far before) + 1) (raster_bytes before) ≡ true
last_is b before h = eq-eqb _ _ (let e : length (row_so_far before) + 1 ≡ raster_bytes before = omega (arith, h.all) in e)

-- the byte that ends the row
pub at_end : (b : ℕ) (before : List EscItem) → Lacks (b ∷ []) before → is_row_end before ≡ true
at_end b before h = rw (last_is b before h, lt-ltb 0 (rows_to_come before) h.rows) refl

-- a byte with which the row isn't whole
pub not_end : (b c : ℕ) (bytes : List ℕ) (before : List EscItem) → Lacks (b ∷ c ∷ bytes) before → is_row_end before ≡ false
not_end b c bytes before h = rw (goes_on before (goes b c bytes before h).room) refl

-- what comes after the row
pub record Ends (bytes : List ℕ) (before : List EscItem) : Type 0 where
  pub scale : raster_scale (bytes_after bytes before) ≡ raster_scale before
  pub width : raster_bytes (bytes_after bytes before) ≡ raster_bytes before
  pub rows : rows_to_come (bytes_after bytes before) ≡ rows_to_come before - 1
  pub row : row_so_far (bytes_after bytes before) ≡ []

pub row_ends : (bytes : List ℕ) (before : List EscItem) → Lacks bytes before → Ends bytes before
row_ends [] before h = absurd (omega (arith, h.some))
row_ends (b ∷ []) before h = grind (arith, last_is)
row_ends (b ∷ c ∷ bytes) before h =
    let go = goes b c bytes before h in
    let one = inside b before h.rows go.room in
    let all = after_first b (c ∷ bytes) before in
    let more = row_ends (c ∷ bytes) (RasterByte b ∷ before) go.rest in
    grind arith

some_down : (k : RasterScale) → 0 < times_down k
some_down k = grind arith

-- the settings after it
pub row_below : (setup : Setup) (bytes : List ℕ) (before : List EscItem) → Lacks bytes before
    → settings_of setup (bytes_after bytes before) ≡ below (settings_of setup before) (times_down (raster_scale before))
row_below setup [] before h = absurd (omega (arith, h.some))
row_below setup (b ∷ []) before h = rw (at_end b before h, lt-ltb 0 (times_down (raster_scale before)) (some_down (raster_scale before))) refl
row_below setup (b ∷ c ∷ bytes) before h =
    ap (settings_of setup) (after_first b (c ∷ bytes) before) ∙ row_below setup (c ∷ bytes) (RasterByte b ∷ before) (goes b c bytes before h).rest
    ∙ ap (λ (s : Settings). below s (times_down (raster_scale before))) (settings_same setup b before (not_end b c bytes before h))

-- one more row
pub next_row : (bytes : List ℕ) (wide k : ℕ) (before : List EscItem) → bytes_after (take (suc k * wide) bytes) before ≡ bytes_after (row_at bytes wide k) (bytes_after (take (k * wide) bytes) before)
next_row bytes wide k before = grind (arith, suc-mul, take-add, after_both)

pub no_row : (bytes : List ℕ) (wide : ℕ) (before : List EscItem) → bytes_after (take (0 * wide) bytes) before ≡ before
no_row bytes wide before = let none : 0 * wide ≡ 0 = omega arith in ap (λ n. bytes_after (take n bytes) before) none

-- bytes that have so many rows of the raster, of which none has begun
pub record HaveRows (bytes : List ℕ) (n : ℕ) (before : List EscItem) : Type 0 where
  pub begins : row_so_far before ≡ []
  pub wide : 0 < n → 0 < raster_bytes before
  pub few : n ≤ rows_to_come before
  pub long : n * raster_bytes before ≤ length bytes

pub fewer : (bytes : List ℕ) (k : ℕ) (before : List EscItem) → HaveRows bytes (suc k) before → HaveRows bytes k before
fewer bytes k before h = grind (arith, suc-mul)

-- what comes after so many rows
pub record AreWhole (bytes : List ℕ) (n : ℕ) (before : List EscItem) : Type 0 where
  pub scale : raster_scale (bytes_after bytes before) ≡ raster_scale before
  pub width : raster_bytes (bytes_after bytes before) ≡ raster_bytes before
  pub rows : rows_to_come (bytes_after bytes before) ≡ rows_to_come before - n
  pub row : row_so_far (bytes_after bytes before) ≡ []

lacks_after : (bytes : List ℕ) (k : ℕ) (before : List EscItem) → HaveRows bytes (suc k) before → AreWhole (take (k * raster_bytes before) bytes) k before
    → Lacks (row_at bytes (raster_bytes before) k) (bytes_after (take (k * raster_bytes before) bytes) before)
lacks_after bytes k before h above = grind (arith, length-take-le, drop, suc-mul, length-drop)

pub are_whole : (bytes : List ℕ) (k : ℕ) (before : List EscItem) → HaveRows bytes k before → AreWhole (take (k * raster_bytes before) bytes) k before
are_whole bytes zero before h = grind (arith, no_row)
are_whole bytes (suc k) before h =
    let above = are_whole bytes k before (fewer bytes k before h) in
    let last = row_ends _ _ (lacks_after bytes k before h above) in
    let all = next_row bytes (raster_bytes before) k before in
    grind arith

-- the row below so many
pub lacks_row : (bytes : List ℕ) (k : ℕ) (before : List EscItem) → HaveRows bytes (suc k) before
    → Lacks (row_at bytes (raster_bytes before) k) (bytes_after (take (k * raster_bytes before) bytes) before)
lacks_row bytes k before h = lacks_after bytes k before h (are_whole bytes k before (fewer bytes k before h))

-- rows below others
none_below : (s : Settings) → s.page.vertical ≤ 65535 → s ≡ below s 0
none_below s small = let e : s.page.vertical ≡ vertical_after s.page.vertical 0 = omega arith in ap (λ v. record s { page = record s.page { vertical = v } }) e

below_more : (s : Settings) (k d : ℕ) → 0 < d → below (below s k) d ≡ below s (k + d)
below_more s k d some = grind (arith, nat_lt, lt-ltb)

-- the settings after so many rows
pub rows_below : (setup : Setup) (bytes : List ℕ) (k : ℕ) (before : List EscItem) → (settings_of setup before).page.vertical ≤ 65535 → HaveRows bytes k before
    → settings_of setup (bytes_after (take (k * raster_bytes before) bytes) before) ≡ below (settings_of setup before) (k * times_down (raster_scale before))
rows_below setup bytes zero before small h = grind (arith, no_row, none_below)
rows_below setup bytes (suc k) before small h =
    let d = times_down (raster_scale before) in
    let above = are_whole bytes k before (fewer bytes k before h) in
    let here = bytes_after (take (k * raster_bytes before) bytes) before in
    ap (settings_of setup) (next_row bytes (raster_bytes before) k before) ∙ row_below setup (row_at bytes (raster_bytes before) k) here (lacks_after bytes k before h above)
    ∙ ap (λ (t : RasterScale). below (settings_of setup here) (times_down t)) above.scale
    ∙ ap (λ (s : Settings). below s d) (rows_below setup bytes k before small (fewer bytes k before h))
    ∙ below_more (settings_of setup before) (k * d) d (some_down (raster_scale before))
    ∙ ap (λ n. below (settings_of setup before) n) (sym (suc-mul k d))

none_kept : (row : List ℕ) (got : ℕ) → got ≡ 0 → take (min got LINE_BYTES) row ≡ []
none_kept row got none = let e : min got LINE_BYTES ≡ 0 = omega arith in ap (λ n. take n row) e

-- bytes that end the row are gathered
pub row_gathered : (r : Raster) (row bytes : List ℕ) (before : List EscItem) → 0 < r.rows → r.got < r.bytes → r.got + length bytes ≡ r.bytes → IsGathering r before
    → IsGathering (record r { rows = r.rows - 1; got = 0; row = row }) (bytes_after bytes before)
row_gathered r row bytes before some few lacks g =
    let e = row_ends bytes before (record { rows = omega (arith, g.rows); some = omega arith; all = omega (arith, g.got, g.bytes) }) in
    grind arith

-- a raster of which no row has begun has rows in as many bytes
pub have_rows : (r : Raster) (n : ℕ) (bytes : List ℕ) (before : List EscItem) → IsPartRow r → r.got ≡ 0 → n ≤ r.rows → IsGathering r before → n * r.bytes ≤ length bytes
    → HaveRows bytes n before
have_rows r n bytes before part begins few g long = grind arith

-- whole rows that are passed
pub rows_pass : (r : Raster) (n : ℕ) (bytes : List ℕ) (before : List EscItem) → IsPartRow r → r.got ≡ 0 → n ≤ r.rows → IsGathering r before → n * r.bytes ≤ length bytes
    → IsGathering (record r { rows = r.rows - n }) (bytes_after (take (n * r.bytes) bytes) before)
rows_pass r n bytes before part begins few g long =
    let e = are_whole bytes n before (have_rows r n bytes before part begins few g long) in
    subst (λ w. IsGathering (record r { rows = r.rows - n }) (bytes_after (take (n * w) bytes) before)) (sym g.bytes)
    (record {
      scale = g.scale ∙ sym e.scale;
      bytes = g.bytes ∙ sym e.width;
      rows = ap (λ m. m - n) g.rows ∙ sym e.rows;
      got = begins ∙ ap length (sym e.row);
      row = none_kept r.row r.got begins ∙ ap (take LINE_BYTES) (sym e.row);
    })
