-- What is held, by the bytes that are pending.
use Rattle.std.proofs.Common.{◌≡◌, ◌<◌, ◌≤◌, ◌+◌, ◌-◌, ◌*◌, ◌%◌, ℕ, false, List, [], ◌∷◌, length, refl, arith, length-drop}
use Rattle.std.proofs.lemmas.Bool.{lt-ltb, le-ltb}
use Rattle.std.proofs.lemmas.Nat.{div-mul-add}
use Rattle.std.proofs.Math.Nat.{zero-mod}
use Rattle.vp_dots.specs.Headers.{header_of}
use Rattle.vp_dots.specs.Images.{Image, row_bytes, pbm}
use Rattle.vp_glyph.specs.Sheets.{Sheets}
use Rattle.vp_field.specs.declared.view.View.{View}
use Rattle.vp_label.proofs.Effects.{idle, no_bytes}
use Rattle.vp_format.specs.Formats.{Held}
use Rattle.vp_zpl.specs.Items.{Item}
use Rattle.vp_label_settings.specs.Formats.{is_open}
use Rattle.vp_output.specs.declared.place.Line.{Line}
use Rattle.vp_output.specs.declared.place.Line.TheVariants.{Head, Row}
use Rattle.vp_copies.specs.Copies.{band_rows, bytes_above, copies_text, line_bytes, pending, Place}
use Rattle.vp_copies.specs.Progress.{IsPlaceOf}
use Rattle.vp_label.specs.Held.{band_rows_after, fields_after, rows_at, stored_after}
use Rattle.vp_label.specs.Press.{press_image, IsBetween}
use Rattle.vp_label.specs.Prints.{image, label_image, view_of}
use Rattle.vp_label.specs.Standing.{IsPrinting}
use Rattle.vp_label.specs.declared.gathered.Gathered.{Gathered}
use Rattle.vp_label.specs.declared.press.Press.{Press}
use Rattle.vp_label.specs.Gathered.{IsPrinted}

abbrev pub PlaceLaw : Type 0
PlaceLaw = (i : Image) (p : Place) (copies : ℕ) → 0 < i.height → IsPlaceOf i.width i.height p → 0 < p.copies → length (pending i p) ≤ length (copies_text i copies) →
    (length (copies_text i copies) - length (pending i p)) % length (pbm i) ≡ bytes_above i.width i.height p.line + p.byte

-- where as many bytes are left as whole copies have, the place is between two
header_before : (width height : ℕ) (l : Line) (byte : ℕ) → bytes_above width height l + byte ≡ 0 → l ≡ Head
header_before width height l byte none = grind arith

pub between_copies : PlaceLaw → (i : Image) (p : Place) (copies : ℕ) → 0 < i.height → IsPlaceOf i.width i.height p → 0 < p.copies →
    length (pending i p) ≡ length (copies_text i copies) → IsBetween p
between_copies law i p copies high at some whole = grind (arith, law i p copies high at some, zero-mod (length (pbm i)), header_before i.width i.height p.line p.byte)

-- the rows of the band of a place's line
rows_of_line : (i : Image) (l : Line) (byte : ℕ) → byte < line_bytes i.width i.height l → rows_at i (bytes_above i.width i.height l + byte) ≡ band_rows i.height l
rows_of_line i Head byte b = rw (lt-ltb (0 + byte) (length (header_of i.width i.height)) (omega arith)) refl
rows_of_line i (Row y) byte b = grind (arith, le-ltb (length (header_of i.width i.height) + y * row_bytes i.width + byte) (length (header_of i.width i.height)), div-mul-add y (row_bytes i.width) byte)

pub held_rows : {A : Type 0} → PlaceLaw → (sheets : Sheets) (g : Gathered A) (before : List Item) (left : List ℕ) (i : Image) (p : Place) → 0 < length left → IsPrinting sheets g left before →
    ((earlier : List Item) → IsPrinted sheets g earlier → i ≡ image sheets earlier) → left ≡ pending i p → 0 < i.height → IsPlaceOf i.width i.height p → 0 < p.copies →
    band_rows i.height p.line ≡ band_rows_after sheets before left
held_rows law sheets g before left i p some printing same is high place copies = grind (arith, length-drop, lt-ltb, rows_of_line)

-- no fields outside a format
pub no_fields : (sheets : Sheets) (before : List Item) (left : List ℕ) → length left ≤ 0 → is_open before ≡ false → fields_after sheets before left ≡ 0
no_fields sheets [] left none shut = refl
no_fields sheets (item ∷ before) left none shut = rw (le-ltb 0 (length left) none, idle sheets (item ∷ before) shut) refl

-- and no bytes
pub no_stored : (before : List Item) (left : List ℕ) → length left ≤ 0 → is_open before ≡ false → stored_after before left ≡ 0
no_stored [] left none shut = refl
no_stored (item ∷ before) left none shut = rw (le-ltb 0 (length left) none, no_bytes (item ∷ before) shut) refl

-- the image of which copies are put out is the label's
pub same_image : {A : Type 0} (sheets : Sheets) (held : Held) (v : View) (p : Press A) → p.copies.width ≡ v.width → p.copies.height ≡ v.height →
    press_image sheets held v p ≡ label_image sheets v held.stored held.fields
same_image sheets held v p wide high = grind arith

-- which is that of the items
pub printed_image : {A : Type 0} (sheets : Sheets) (g : Gathered A) (earlier : List Item) → IsPrinted sheets g earlier →
    label_image sheets (view_of g.in_force.settings) g.format.stored g.format.fields.items ≡ image sheets earlier
printed_image sheets g earlier printed = grind arith
