-- What is printed is the images that are whole, and the raster that has begun.
use Rattle.std.proofs.lemmas.Grind.{common_steps, flat_map-append}
use Rattle.std.proofs.Common.{◌≡◌, ℕ, ◌+◌, ◌-◌, ◌*◌, ◌<◌, nat_lt, true, false, List, [], ◌∷◌, ◌++◌, length, flat_map, append_assoc, Option, refl, sym, ap, ◌∙◌, arith, length-append}
use Rattle.std.proofs.lemmas.Bool.{ne_eqb, eq-eqb, eqb-true, eqb-false, ltb-true, and_parts}
use Rattle.std.proofs.lemmas.List.{append-nil}
use Rattle.std.proofs.lemmas.Grind.{flat_map-append}
use Rattle.vp_dots.specs.Headers.{header_of}
use Rattle.vp_dots.specs.Images.{Image, pbm}
use Rattle.vp_esc.specs.declared.item.EscItem.{EscItem}
use Rattle.vp_esc.specs.declared.item.EscItem.TheVariants.{Raster, RasterByte}
use Rattle.vp_esc.specs.declared.item.RasterScale.{RasterScale}
use Rattle.vp_esc.specs.declared.item.Spelled.{Spelled}
use Rattle.vp_receipt_settings.specs.Line.{mode}
use Rattle.vp_receipt_settings.specs.Pages.{is_paged}
use Rattle.vp_receipt_settings.specs.Rasters.{times_across, times_down, raster_scale, raster_bytes, rows_to_come, row_so_far, is_row_end}
use Rattle.vp_receipt_settings.specs.Setup.{Setup, across}
use Rattle.vp_strips.specs.Rows.{raster_dot}
use Rattle.vp_strips.proofs.Strips.{text_of_rows}
use Rattle.vp_receipt.specs.Images.{completed, images, rows_come, drawn_dot, raster_image, begun}
use Rattle.vp_receipt.specs.Strips.{prints, printed, raster_row_text}
use Rattle.vp_receipt.proofs.Images.{strip_is, line_is, item_is}
use Rattle.vp_receipt.proofs.Rasters.{all_rows}

-- the bytes of a raster come before any other item does
abbrev pub IsOrderly : List EscItem → Type 0
IsOrderly [] = Unit {0}
IsOrderly (RasterByte byte ∷ before) = IsOrderly before
IsOrderly (item ∷ before) = (rows_to_come before ≡ 0) × IsOrderly before

abbrev pub Tells : Setup → List EscItem → Type 0
Tells setup before = printed setup before ≡ flat_map pbm (images setup before) ++ begun setup before

-- an item that is no byte of a raster, where none has begun
item_next : (a p b c : List ℕ) (xs ys : List Image) → a ≡ flat_map pbm xs ++ b → b ≡ [] → p ≡ flat_map pbm ys ++ c → a ++ p ≡ flat_map pbm (xs ++ ys) ++ c
item_next a p b c xs ys e none f = grind (arith, flat_map, append-nil, append_assoc, flat_map-append)

-- the last row of a raster
last_next : (a p b c : List ℕ) (xs ys : List Image) → a ≡ flat_map pbm xs ++ b → b ++ p ≡ flat_map pbm ys → c ≡ [] → a ++ p ≡ flat_map pbm (xs ++ ys) ++ c
last_next a p b c xs ys e whole none = grind (arith, append_assoc, flat_map, flat_map-append, append-nil)

pub none_begun : (setup : Setup) (before : List EscItem) → rows_to_come before ≡ 0 → begun setup before ≡ []
none_begun setup before e = grind arith

-- the header of a raster of so many rows, and these
abbrev so_far : Setup → List EscItem → ℕ → List (List ℕ) → List ℕ
so_far setup before n rows =
    header_of (across setup.width) (times_down (raster_scale before) * n) ++ flat_map (raster_row_text setup before) rows

-- the head of a raster
head_tells : (setup : Setup) (before : List EscItem) (scale : Spelled (Option RasterScale)) (bytes rows : ℕ) → rows_to_come before ≡ 0 → Tells setup before → Tells setup (Raster scale bytes rows ∷ before)
head_tells setup before scale bytes rows none prev = grind (arith, item_next, none_begun, ne_eqb, append-nil, line_is, ltb-true, and_parts, nat_lt)

-- a raster whose rows have all come
whole_raster : (setup : Setup) (before : List EscItem) → 0 < length (rows_come before) → so_far setup before (length (rows_come before)) (rows_come before) ≡ flat_map pbm (raster_image setup before)
whole_raster setup before some =
    let scale = raster_scale before in
    let rows = rows_come before in
    let high = times_down scale * length rows in
    ap (λ t. header_of (across setup.width) high ++ t)
    (sym (all_rows setup.width (raster_dot setup before (times_across scale) (raster_bytes before)) (times_down scale) rows))
    ∙ text_of_rows setup.width high (drawn_dot setup before) (grind arith)
    ∙ strip_is setup.width high (drawn_dot setup before)

module _ (setup : Setup) (before : List EscItem) (byte : ℕ) (prev : Tells setup before) where
  abbrev after : List EscItem
  after = RasterByte byte ∷ before

  abbrev row : List ℕ
  row = row_so_far before ++ byte ∷ []

  on_page : is_paged (mode setup before) ≡ true → Tells setup after
  on_page m = grind (arith, common_steps)

  module _ (m : is_paged (mode setup before) ≡ false) where
    within : is_row_end before ≡ false → Tells setup after
    within e = grind (arith, common_steps)

    module _ (e : is_row_end before ≡ true) where
      some : 0 < rows_to_come before
      some = ltb-true 0 (rows_to_come before) (and_parts _ _ e).1

      fewer : rows_to_come after ≡ rows_to_come before - 1
      fewer = grind arith

      come : rows_come after ≡ rows_come before ++ row ∷ []
      come = rw e refl

      one_more : length (rows_come after) ≡ length (rows_come before) + 1
      one_more = ap length come ∙ length-append (rows_come before) (row ∷ [])

      row_printed : prints setup before (RasterByte byte) ≡ raster_row_text setup before row
      row_printed = rw (m, e) refl

      -- the rows with this one
      with_row : begun setup before ++ prints setup before (RasterByte byte) ≡ so_far setup after (length (rows_come before) + rows_to_come before) (rows_come after)
      with_row = grind (arith, some, row_printed, append_assoc, append-nil, flat_map-append, come)

      more_rows : (rows_to_come before ≡ 1 → ⊥) → Tells setup after
      more_rows other = grind (arith, fewer, some, one_more, ne_eqb, append_assoc, append-nil, with_row)

      last_row : rows_to_come before ≡ 1 → Tells setup after
      last_row one =
          let count : length (rows_come before) + rows_to_come before ≡ length (rows_come after) = omega (arith, one, one_more) in
          let own : completed setup before (RasterByte byte) ≡ raster_image setup after = rw (m, e, eq-eqb (rows_to_come before) 1 one) refl in
          last_next (printed setup before) (prints setup before (RasterByte byte)) (begun setup before) (begun setup after) (images setup before) (completed setup before (RasterByte byte))
          prev (with_row ∙ ap (λ n. so_far setup after n (rows_come after)) count ∙ whole_raster setup after (omega (arith, one_more)) ∙ ap (flat_map pbm) (sym own))
          (none_begun setup after (omega (arith, fewer, one)))

  byte_tells : Tells setup after
  byte_tells = grind (arith, on_page, last_row, eqb-true, more_rows, eqb-false, within)

pub tells : (setup : Setup) (before : List EscItem) → IsOrderly before → Tells setup before
tells setup [] o = refl
tells setup (RasterByte byte ∷ before) o = byte_tells setup before byte (tells setup before o)
tells setup (Raster scale bytes rows ∷ before) o = head_tells setup before scale bytes rows o.0 (tells setup before o.1)
tells setup (item ∷ before) o =
    item_next (printed setup before) (prints setup before item) (begun setup before) (begun setup (item ∷ before)) (images setup before) (completed setup before item)
    (tells setup before o.1) (none_begun setup before o.0)
    (item_is setup before item refl ∙ sym (append-nil (flat_map pbm (completed setup before item))) ∙ ap (λ t. flat_map pbm (completed setup before item) ++ t) (sym (none_begun setup (item ∷ before) refl)))
