-- What the reader holds, beside the bytes that it has taken.
use Rattle.std.specs.Prelude.{◌≡◌, ◌==◌, ℕ, ◌-◌, Bool, true, false, not, Option, Some, None, List, [], ◌∷◌, ◌++◌, length, min, if◌then◌else◌}
use Rattle.vp_zpl.specs.declared.reading.Reading.{Reading}
use Rattle.vp_zpl.specs.declared.name.Kind.{Kind}
use Rattle.vp_zpl.specs.declared.name.Kind.TheVariants as kinds
use Rattle.vp_zpl.specs.declared.name.Name.{Name}
use Rattle.vp_zpl.specs.declared.reader.ZplReader.{ZplReader}
use Rattle.vp_zpl.specs.declared.reader.Event.{Event}
use Rattle.vp_zpl.specs.declared.reader.Event.TheVariants as events
use Rattle.vp_zpl.specs.declared.reader.Phase.{Phase}
use Rattle.vp_zpl.specs.declared.reader.Phase.TheVariants.{Outside, AfterSign, AfterFirst, Skipping, Parameters, Text, AfterIndicator, AfterDigit, Codes, Binary}
use Rattle.vp_zpl.specs.Spelling.{Kept, kept, kept_of, ended, last, behind_commas}
use Rattle.vp_zpl.specs.Shown.{data_bytes, shown_part, shown_parts}
use Rattle.vp_zpl.specs.Commands.{kind_named, is_b, count_of, head, is_whole, Cut, cut, with_byte, longer, in_format, indicator_in, indicator}
use Rattle.std.specs.List.{prefix_len}
use Rattle.vp_zpl.specs.Runs.{is_text, is_kept_code}
use Rattle.vp_zpl.specs.Items.Item.{Given}
use Rattle.vp_zpl.specs.Items.{Item, item_of, data_items, waiting, name_of, given, at_end, items_in}

-- the items that an event shows
abbrev pub shown_event : Event → ZplReader → List Item
shown_event events.Nothing r = []
shown_event events.Given r = Given r.sent.command r.sent.name (shown_parts r.sent.parameters.items) ∷ []
shown_event events.Data r = data_items (data_bytes r.known)

-- the open command has this kind, name and these bytes behind its name
pub record Named (reading : Reading) (r : ZplReader) (k : Kind) (args command : List ℕ) : Type 0 where
  pub sign : ℕ
  pub first : ℕ
  pub second : ℕ
  pub bytes : command ≡ sign ∷ first ∷ second ∷ args
  pub kind : kind_named reading sign first second ≡ k
  pub name : r.sent.name ≡ name_of sign first second

abbrev pub is_alone : Kind → Bool
is_alone kinds.FieldHex = false
is_alone (kinds.Plain k) = false
is_alone kinds.FieldData = false
is_alone kinds.Graphic = false
is_alone _ = true

abbrev pub has_parameters : Kind → Bool
has_parameters kinds.FieldHex = true
has_parameters (kinds.Plain k) = true
has_parameters kinds.Graphic = true
has_parameters _ = false

-- the indicator behind a name
abbrev pub indicator_behind : Kind → Option ℕ → Option ℕ
indicator_behind kinds.FieldSeparator was = None
indicator_behind kinds.FormatEnd was = None
indicator_behind _ was = was

-- the indicator behind a command with these parameters, in a format or not
abbrev pub indicator_with : Kind → List Kept → Bool → Option ℕ → Option ℕ
indicator_with kinds.FieldHex ps opened was = if opened then Some (indicator_in ps) else was
indicator_with _ ps opened was = was

-- what a command gives at its name
abbrev pub at_name : Kind → Name → List Item
at_name kinds.FieldHex name = []
at_name (kinds.Plain k) name = []
at_name kinds.Graphic name = []
at_name kind name = item_of kind name [] ∷ []

-- the phase behind a name
abbrev pub phase_behind : Kind → Phase
phase_behind kinds.FieldHex = Parameters kinds.FieldHex
phase_behind (kinds.Plain k) = Parameters (kinds.Plain k)
phase_behind kinds.Graphic = Parameters kinds.Graphic
phase_behind kinds.FieldData = Text
phase_behind _ = Skipping

pub record InSkipping (reading : Reading) (r : ZplReader) (command : List ℕ) : Type 0 where
  pub kind : Kind
  pub args : List ℕ
  pub named : Named reading r kind args command
  pub alone : is_alone kind ≡ true

pub record InParameters (reading : Reading) (r : ZplReader) (kind : Kind) (command : List ℕ) : Type 0 where
  pub args : List ℕ
  pub named : Named reading r kind args command
  pub takes : has_parameters kind ≡ true
  pub not_whole : kind ≡ kinds.Graphic → is_whole args ≡ false
  pub kept_is : shown_parts r.sent.parameters.items ≡ kept_of (ended [] args)
  pub part_is : shown_part r.part ≡ kept (last [] args)

-- these bytes may yet be spelled as one
pub record InText (reading : Reading) (r : ZplReader) (left command : List ℕ) : Type 0 where
  pub args : List ℕ
  pub named : Named reading r kinds.FieldData args command
  pub waits : waiting r.indicator args ≡ left

pub record InCodes (reading : Reading) (r : ZplReader) (command : List ℕ) : Type 0 where
  pub args : List ℕ
  pub named : Named reading r kinds.Graphic args command
  pub whole : is_whole args ≡ true
  pub is_a : is_b (head args) ≡ false

pub record InBinary (reading : Reading) (r : ZplReader) (left : ℕ) (command : List ℕ) : Type 0 where
  pub args : List ℕ
  pub named : Named reading r kinds.Graphic args command
  pub whole : is_whole args ≡ true
  pub binary : is_b (head args) ≡ true
  pub left_is : left ≡ count_of (head args) - length (behind_commas 4 args)

abbrev pub in_phase : Reading → Phase → ZplReader → List ℕ → Type 0
in_phase reading Outside r command = command ≡ []
in_phase reading (AfterSign sign) r command = command ≡ sign ∷ []
in_phase reading (AfterFirst sign first) r command = command ≡ sign ∷ first ∷ []
in_phase reading Skipping r command = InSkipping reading r command
in_phase reading (Parameters kind) r command = InParameters reading r kind command
in_phase reading Text r command = InText reading r [] command
in_phase reading (AfterIndicator x) r command =
    (r.indicator ≡ Some x) × InText reading r (x ∷ []) command
in_phase reading (AfterDigit x digit) r command =
    (r.indicator ≡ Some x) × InText reading r (x ∷ digit ∷ []) command
in_phase reading Codes r command = InCodes reading r command
in_phase reading (Binary left) r command = InBinary reading r left command

-- the indicator changes where the command that sets it ends
abbrev pub indicator_at : Reading → Phase → List ℕ → List (List ℕ) → Option ℕ
indicator_at reading (Parameters kind) command before = indicator reading before
indicator_at reading _ command before = indicator reading (command ∷ before)

-- the reader reads so, and stands behind these commands in this one
pub record StandsIn (reading : Reading) (r : ZplReader) (before : List (List ℕ)) (command : List ℕ)
    : Type 0 where
  pub reads : r.reading ≡ reading
  pub opened : r.in_format ≡ in_format reading (command ∷ before)
  pub indicates : r.indicator ≡ indicator_at reading r.phase command before
  pub phase : in_phase reading r.phase r command

-- the reader reads so, and stands after these bytes
unfoldable pub Stands : Reading → ZplReader → List ℕ → Type 0
Stands reading r bytes = StandsIn reading r (cut reading bytes).before (cut reading bytes).open_one

-- by a byte that the open command takes
pub record Goes (reading : Reading) (items : List Item) (new : ZplReader) (before : List (List ℕ))
    (command : List ℕ) (c : ℕ) : Type 0 where
  pub gives : given reading before (longer command c) ≡ given reading before command ++ items
  pub stands : StandsIn reading new before (longer command c)

-- by a sign that ends it
pub record Ends (reading : Reading) (items : List Item) (new : ZplReader) (before : List (List ℕ))
    (command : List ℕ) (c : ℕ) : Type 0 where
  pub gives : at_end reading before command ≡ given reading before command ++ items
  pub stands : StandsIn reading new (command ∷ before) (c ∷ [])

-- by any byte
pub record Advances (reading : Reading) (items : List Item) (new : ZplReader) (s : Cut) (c : ℕ)
    : Type 0 where
  pub gives : items_in reading (with_byte reading s c) ≡ items_in reading s ++ items
  pub stands : StandsIn reading new (with_byte reading s c).before (with_byte reading s c).open_one

-- wherever it stood in this phase, a byte that the open command takes gives what the event shows
abbrev pub Continues : Phase → ℕ → Event → ZplReader → ZplReader → Type 0
Continues q c event old new =
    (reading : Reading) (before : List (List ℕ)) (command : List ℕ) → StandsIn reading old before command
    → old.phase ≡ q → Goes reading (shown_event event new) new before command c

-- wherever it stood in a phase of which this holds, a sign that ends the open command does
abbrev pub at_sign : ZplReader → ℕ → ZplReader
at_sign r sign = record r { phase = AfterSign sign }

abbrev pub Closes : (Phase → Type 0) → Event → ZplReader → ZplReader → Type 0
Closes Within event old new =
    (reading : Reading) (before : List (List ℕ)) (command : List ℕ) (sign : ℕ)
    → StandsIn reading old before command → Within old.phase
    → Ends reading (shown_event event (at_sign new sign)) (at_sign new sign) before command sign

-- the phase behind ^GF's head
abbrev pub behind_head : List Kept → Phase
behind_head head = if is_b head then Binary (count_of head) else Codes

-- how many bytes of binary data are still wanted
abbrev pub left_of : Phase → ℕ
left_of (Binary left) = left
left_of _ = 0

-- data that may yet be spelled there
abbrev pub left_over : Phase → List ℕ
left_over (AfterIndicator x) = x ∷ []
left_over (AfterDigit x digit) = x ∷ digit ∷ []
left_over _ = []

-- nothing is begun there that more bytes have to end
abbrev pub rests_in : Phase → Bool → Bool
rests_in Outside opened = true
rests_in Skipping opened = true
rests_in (AfterSign sign) opened = false
rests_in (AfterFirst sign first) opened = false
rests_in (Binary left) opened = left == 0
rests_in _ opened = not opened

-- how many of these bytes are data by themselves there
abbrev pub front_by : Phase → Option ℕ → List ℕ → ℕ
front_by Text indicated input = prefix_len (is_text indicated) input
front_by Codes indicated input = prefix_len is_kept_code input
front_by (Binary left) indicated input = min (length input) left
front_by _ indicated input = 0

-- the phase behind `n` bytes that are data by themselves there
abbrev pub phase_after : Phase → ℕ → Phase
phase_after (Binary left) n = Binary (left - n)
phase_after q n = q
