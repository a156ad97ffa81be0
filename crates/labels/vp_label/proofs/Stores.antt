-- Data that are stored, or find no room.
use Rattle.std.proofs.Common.{◌≡◌, ◌+◌, ◌∙◌, ◌<◌, ◌≤◌, ℕ, true, false, List, [], ◌∷◌, ◌++◌, length, arith, refl, length-append, Some, None, Bool, ◌&&◌, ap, inl, inr, sym, append_assoc, cond, lit≤}
use Rattle.std.specs.Prelude.{nat_le}
use Rattle.std.proofs.lemmas.List.{append-nil}
use Rattle.std.proofs.lemmas.Bool.{cases_Bool, cases_lt, le-leb}
use Rattle.vp_dots.specs.declared.fault.Fault.{Fault}
use Rattle.vp_dots.specs.declared.fault.Fault.TheVariants.{StoreFull}
use Rattle.vp_glyph.specs.Sheets.{Sheets}
use Rattle.vp_zpl.specs.declared.item.Command.{Command}
use Rattle.vp_zpl.specs.Items.Item.{Given, Data}
use Rattle.vp_zpl.specs.Items.{Item, data_items}
use Rattle.vp_format.specs.declared.format.TheConstants.{STORED}
use Rattle.vp_label_settings.specs.Formats.{is_open, followed_by, stored, stored_by}
use Rattle.vp_label.specs.Entries.{all_stored, bytes_by, entries, parts_among}
use Rattle.vp_closing.specs.Contents.{made_if}
use Rattle.vp_label.specs.Refusals.{first_refusal, refusal}

pub entries-kept : (sheets : Sheets) (before : List Item) (bytes : List ℕ) → entries sheets (followed_by before (data_items bytes)) ≡ entries sheets before
entries-kept sheets before [] = refl
entries-kept sheets before (b ∷ bytes) = entries-kept sheets (Data b ∷ before) bytes

pub open-kept : (before : List Item) (bytes : List ℕ) → is_open (followed_by before (data_items bytes)) ≡ is_open before
open-kept before [] = refl
open-kept before (b ∷ bytes) = open-kept (Data b ∷ before) bytes

one-stored : (before : List Item) (b : ℕ) → is_open before ≡ true → all_stored (Data b ∷ before) ≡ all_stored before ++ b ∷ []
one-stored before b is_so = rw is_so refl

pub all-stored : (before : List Item) (bytes : List ℕ) → is_open before ≡ true → all_stored (followed_by before (data_items bytes)) ≡ all_stored before ++ bytes
all-stored before [] is_so = sym (append-nil (all_stored before))
all-stored before (b ∷ bytes) is_so = grind (arith, append_assoc, one-stored, all-stored (Data b ∷ before) bytes)

-- of which the data are some
one-given : (before : List Item) (b : ℕ) → is_open before ≡ true → stored (Data b ∷ before) ≡ stored before ++ b ∷ []
one-given before b is_so = rw is_so refl

pub all-given : (before : List Item) (bytes : List ℕ) → is_open before ≡ true → stored (followed_by before (data_items bytes)) ≡ stored before ++ bytes
all-given before [] is_so = sym (append-nil (stored before))
all-given before (b ∷ bytes) is_so = grind (arith, append_assoc, one-given, all-given (Data b ∷ before) bytes)

by_command : (c : Command) (opened : Bool) (old closed given : List ℕ) → length given ≤ length old → length old ≤ length closed
    → length (cond opened (stored_by c given) given) ≤ length (cond opened (bytes_by closed c old) old)
by_command c opened old closed given h k = grind arith

pub fewer : (before : List Item) → length (stored before) ≤ length (all_stored before)
fewer [] = lit≤ tt
fewer (Given c name sent ∷ before) =
    by_command c (is_open before) (all_stored before) _ (stored before) (fewer before) (omega (arith, length-append (all_stored before) (made_if (all_stored before) (parts_among before (all_stored before)).symbol (parts_among before (all_stored before)).content)))
fewer (Data b ∷ before) = grind (arith, length-append, fewer before)

-- a byte that fits
fits : (opened : Bool) (n : ℕ) → n < STORED → (opened && nat_le STORED n) ≡ false
fits opened n h = grind arith

taken : (sheets : Sheets) (before : List Item) (b : ℕ) → length (all_stored before) < STORED → refusal sheets before (Data b) ≡ None
taken sheets before b h = rw (fits (is_open before) (length (all_stored before)) h) refl

refused : (sheets : Sheets) (before : List Item) (b : ℕ) → is_open before ≡ true → STORED ≤ length (all_stored before) → refusal sheets before (Data b) ≡ Some StoreFull
refused sheets before b is_so h = rw (is_so, le-leb STORED (length (all_stored before)) h) refl

pub all_taken : (sheets : Sheets) (before : List Item) (bytes : List ℕ) → is_open before ≡ true → length (all_stored before) + length bytes ≤ STORED → first_refusal sheets before (data_items bytes) ≡ None
all_taken sheets before [] is_so h = refl
all_taken sheets before (b ∷ bytes) is_so h = grind (arith, length-append, one-stored, taken, all_taken sheets (Data b ∷ before) bytes)

pub all_unheard : (sheets : Sheets) (before : List Item) (bytes : List ℕ) → is_open before ≡ false → first_refusal sheets before (data_items bytes) ≡ None
all_unheard sheets before [] shut = refl
all_unheard sheets before (b ∷ bytes) shut = grind (arith, all_unheard sheets (Data b ∷ before) bytes shut)

pub one_refused : (sheets : Sheets) (before : List Item) (bytes : List ℕ) → is_open before ≡ true → STORED < length (all_stored before) + length bytes → length (all_stored before) ≤ STORED →
    first_refusal sheets before (data_items bytes) ≡ Some StoreFull
one_refused sheets before [] is_so h few = absurd (omega arith)
one_refused sheets before (b ∷ bytes) is_so h few = grind (arith, cases_lt, length-append, one-stored, taken, refused, one_refused sheets (Data b ∷ before) bytes)

-- behind a byte that is refused each one is, for the same reason
pub last_refused : (sheets : Sheets) (before : List Item) (bytes : List ℕ) (byte : ℕ) (f : Fault) → first_refusal sheets before (data_items (bytes ++ byte ∷ [])) ≡ Some f →
    refusal sheets (followed_by before (data_items bytes)) (Data byte) ≡ Some f
last_refused sheets before bytes byte f some = elim (cases_Bool (is_open before)) [
  | inl so ↦ open_refused sheets before bytes byte f so some
  | inr shut ↦ absurd (let none = all_unheard sheets before (bytes ++ byte ∷ []) shut in cc)
]
  where
    open_refused : (sheets : Sheets) (before : List Item) (bytes : List ℕ) (byte : ℕ) (f : Fault) → is_open before ≡ true → first_refusal sheets before (data_items (bytes ++ byte ∷ [])) ≡ Some f →
        refusal sheets (followed_by before (data_items bytes)) (Data byte) ≡ Some f
    open_refused sheets before [] byte f so some = elim (cases_lt (length (all_stored before)) STORED) [
      | inl room ↦ absurd (let none = taken sheets before byte room in let no = rw none at some in cc)
      | inr full ↦ let is = refused sheets before byte so full in is ∙ rw is at some
    ]
    open_refused sheets before (b ∷ bytes) byte f so some = elim (cases_lt (length (all_stored before)) STORED) [
      | inl room ↦ let one = taken sheets before b room in open_refused sheets (Data b ∷ before) bytes byte f so (rw one at some)
      | inr full ↦
          let is = refused sheets before b so full in
          let still : STORED ≤ length (all_stored (followed_by (Data b ∷ before) (data_items bytes))) =
          omega (arith, ap length (all-stored (Data b ∷ before) bytes so), length-append (all_stored (Data b ∷ before)) bytes, ap length (one-stored before b so), length-append (all_stored before) (b ∷ [])) in
          refused sheets (followed_by (Data b ∷ before) (data_items bytes)) byte (open-kept (Data b ∷ before) bytes ∙ so) still ∙ rw is at some
    ]
