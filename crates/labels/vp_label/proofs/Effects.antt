-- What follows from a command's effect.
use Rattle.std.proofs.Common.{◌≡◌, ◌∙◌, ◌+◌, ◌≤◌, ℕ, true, false, List, [], ◌∷◌, refl, Bool}
use Rattle.vp_glyph.specs.Sheets.{Sheets}
use Rattle.vp_zpl.specs.Spelling.{Kept}
use Rattle.vp_zpl.specs.declared.name.Name.{Name}
use Rattle.vp_zpl.specs.declared.item.Command.{Command}
use Rattle.vp_zpl.specs.declared.item.Command.TheVariants.{FormatStart, FormatEnd, FieldSeparator}
use Rattle.vp_zpl.specs.Items.{Item}
use Rattle.vp_zpl.specs.Items.Item.{Given, Data}
use Rattle.vp_format.specs.declared.field.Field.{Field}
use Rattle.vp_label_settings.specs.Formats.{is_open, stored, stored_by}
use Rattle.vp_label_settings.specs.Refusals.{head_refusal}
use Rattle.vp_label.specs.declared.gathered.Effect.TheVariants.{Sets, Begins, Closes, Prints}
use Rattle.vp_label.specs.Effects.{effect_of}
use Rattle.vp_label.specs.Entries.{all_stored, bytes_by, entries, entries_by, closed, printed_bytes, printed_entries}
use Rattle.vp_label.specs.Refusals.{command_refusal}
use Rattle.vp_label.specs.Prints.{prints_by, unless_empty, label_image}
use Rattle.vp_field.specs.declared.view.View.{View}
use Rattle.vp_format.specs.declared.format.TheConstants.{STORED}
use Rattle.vp_label.specs.Gathered.{AreKept, Holds}
use Rattle.vp_format.specs.Formats.{Held}
use Rattle.vp_dots.specs.Images.{Image}
use Rattle.vp_copies.specs.Copies.{copies_text}
use Rattle.std.specs.Prelude.{◌==◌, if◌then◌else◌, length}
use Rattle.std.proofs.Common.{arith}

-- a command of a format that sets what is in force alone
pub record OnlySets (sheets : Sheets) (before : List Item) (command : Command) : Type 0 where
  pub fields : entries_by (closed sheets before) command (entries sheets before) ≡ entries sheets before
  pub stored : stored_by command (stored before) ≡ stored before
  pub bytes : bytes_by (printed_bytes before) command (all_stored before) ≡ all_stored before
  pub refusal : command_refusal sheets before command ≡ head_refusal (is_open before) command
  pub prints : prints_by sheets before command ≡ []

pub sets : (sheets : Sheets) (before : List Item) (command : Command) → effect_of true command ≡ Sets → OnlySets sheets before command
sets sheets before c e = grind arith

pub closes : (opened : Bool) (command : Command) → effect_of opened command ≡ Closes → (opened ≡ true) × (command ≡ FieldSeparator)
closes opened c e = grind arith

pub ends : (opened : Bool) (command : Command) → effect_of opened command ≡ Prints → (opened ≡ true) × (command ≡ FormatEnd)
ends opened c e = grind arith

pub begins_shut : (opened : Bool) (command : Command) → effect_of opened command ≡ Begins → (opened ≡ false) × (command ≡ FormatStart)
begins_shut opened c e = grind arith

-- where no format is open, no field is kept
ended : (sheets : Sheets) (opened : Bool) (name : Name) (sent : List Kept) (before : List Item) → is_open before ≡ opened →
    (is_open before ≡ false → entries sheets before ≡ []) → entries sheets (Given FormatEnd name sent ∷ before) ≡ []
ended sheets opened name sent before so idle_before = grind arith

pub idle : (sheets : Sheets) (before : List Item) → is_open before ≡ false → entries sheets before ≡ []
idle sheets [] shut = refl
idle sheets (Data b ∷ before) shut = idle sheets before shut
idle sheets (Given FormatStart name sent ∷ before) shut = cc
idle sheets (Given FormatEnd name sent ∷ before) shut = ended sheets (is_open before) name sent before refl (λ so. idle sheets before so)
idle sheets (Given _ name sent ∷ before) shut = rw shut (idle sheets before shut)

-- and no byte
ended_bytes : (opened : Bool) (name : Name) (sent : List Kept) (before : List Item) → is_open before ≡ opened →
    (is_open before ≡ false → all_stored before ≡ []) → all_stored (Given FormatEnd name sent ∷ before) ≡ []
ended_bytes opened name sent before so idle_before = grind arith

pub no_bytes : (before : List Item) → is_open before ≡ false → all_stored before ≡ []
no_bytes [] shut = refl
no_bytes (Data b ∷ before) shut = rw shut (no_bytes before shut)
no_bytes (Given FormatStart name sent ∷ before) shut = cc
no_bytes (Given FormatEnd name sent ∷ before) shut = ended_bytes (is_open before) name sent before refl (λ so. no_bytes before so)
no_bytes (Given _ name sent ∷ before) shut = rw shut (no_bytes before shut)

-- a command that sets what is in force alone leaves what is held
pub holds_still : (sheets : Sheets) (before : List Item) (held : Held) (command : Command) (name : Name) (sent : List Kept) → effect_of (is_open before) command ≡ Sets →
    (is_open before ≡ true → Holds sheets before held) → is_open (Given command name sent ∷ before) ≡ true → Holds sheets (Given command name sent ∷ before) held
holds_still sheets before held c name sent e h so = grind arith

-- behind a field that is closed
pub closed_made : (before : List Item) (command : Command) (name : Name) (sent : List Kept) (made : ℕ) → command ≡ FieldSeparator → is_open before ≡ true → made + length (stored before) ≡ length (printed_bytes before)
    → made + length (stored (Given command name sent ∷ before)) ≡ length (all_stored (Given command name sent ∷ before))
closed_made before command name sent made e so h = rw (e, so) h

pub closed_held : (sheets : Sheets) (before : List Item) (held : Held) (command : Command) (name : Name) (sent : List Kept) → command ≡ FieldSeparator → is_open before ≡ true
    → held.fields ≡ printed_entries sheets before → held.stored ≡ printed_bytes before → AreKept held.stored held.fields → length held.stored ≤ STORED → Holds sheets (Given command name sent ∷ before) held
closed_held sheets before held command name sent e so fields stored kept few =
    rw e record { fields = fields ∙ rw so refl; stored = stored ∙ rw so refl; kept = kept; few = few }

-- the copies of a format with fields
pub printed_copies : (i : Image) (fields : List Field) (q : ℕ) → copies_text i (if length fields == 0 then 0 else q) ≡ unless_empty fields (copies_text i q)
printed_copies i fields q = grind arith

-- the same copies of the same image
pub same_text : (sheets : Sheets) (v w : View) (bytes more : List ℕ) (fields kept : List Field) (q r : ℕ) → v ≡ w → bytes ≡ more → fields ≡ kept → q ≡ r →
    unless_empty fields (copies_text (label_image sheets v bytes fields) q) ≡ unless_empty kept (copies_text (label_image sheets w more kept) r)
same_text sheets v w bytes more fields kept q r a b d e = search arith
