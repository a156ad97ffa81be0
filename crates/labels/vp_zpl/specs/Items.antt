-- What each command gives, while it stands open and once it has ended.
use Rattle.std.specs.Prelude.{ℕ, ◌+◌, ◌==◌, Bool, true, false, not, ◌&&◌, ◌||◌, Option, Some, None, List, [], ◌∷◌, ◌++◌, take, map, filter, if◌then◌else◌}
use Prim.Native.Char.{code}
use Rattle.vp_zpl.specs.declared.reading.Reading.{Reading}
use Rattle.vp_zpl.specs.declared.name.Kind.{Kind}
use Rattle.vp_zpl.specs.declared.name.Kind.TheVariants as kinds
use Rattle.vp_zpl.specs.declared.name.Name.{Name}
use Rattle.vp_zpl.specs.declared.item.Command.{Command}
use Rattle.vp_zpl.specs.Arguments.{command_of}
use Rattle.vp_zpl.specs.Spelling.{is_blank, capital, parameters, kept_of, Kept, behind_commas, decoded, known, undecided}
use Rattle.vp_zpl.specs.Commands.{kind_named, kind, is_b, count_of, is_whole, head, is_short, Cut, cut, in_format, indicator, wants_binary}

-- a command with its arguments, and its name and parameters as they were sent; a byte of data
pub data Item : Type 0 where
  Given : (command : Command) (name : Name) (sent : List Kept) → Item
  Data : (byte : ℕ) → Item

abbrev pub item_of : Kind → Name → List Kept → Item
item_of kind name sent = Given (command_of kind sent) name sent

abbrev pub data_items : List ℕ → List Item
data_items bytes = map Data bytes

-- the font byte of ^A stands as it came
abbrev pub second_of : ℕ → ℕ → ℕ → ℕ
second_of sign a b = if sign == code "^" && capital a == code "A" then b else capital b

abbrev pub name_of : ℕ → ℕ → ℕ → Name
name_of sign a b = record { sign = sign; first = capital a; second = second_of sign a b }

-- the data of ^FD that are known, and all of them at its end
abbrev pub text_known : Option ℕ → List ℕ → List ℕ
text_known None bytes = bytes
text_known (Some x) bytes = known x bytes

abbrev pub text_at_end : Option ℕ → List ℕ → List ℕ
text_at_end None bytes = bytes
text_at_end (Some x) bytes = decoded x bytes

-- what may yet be spelled as one byte
abbrev pub waiting : Option ℕ → List ℕ → List ℕ
waiting None bytes = []
waiting (Some x) bytes = undecided x bytes

-- of the data of ^GF A, blanks and tabs are dropped
abbrev pub is_code : ℕ → Bool
is_code c = not (is_blank c || c == 0x09)

-- the data of ^GF: b bytes for B, else up to the next sign
unfoldable pub picture : List ℕ → List ℕ
picture args =
    if is_b (head args) then take (count_of (head args)) (behind_commas 4 args)
    else filter is_code (behind_commas 4 args)

abbrev pub graphic : Name → List ℕ → List Item
graphic name args = item_of kinds.Graphic name (head args) ∷ data_items (picture args)

abbrev pub given_named : Reading → Kind → List (List ℕ) → Name → List ℕ → List Item
given_named reading kinds.FieldHex before name args = []
given_named reading (kinds.Plain k) before name args = []
given_named reading kinds.Graphic before name args = if is_whole args then graphic name args else []
given_named reading kinds.FieldData before name args =
    item_of kinds.FieldData name [] ∷ data_items (text_known (indicator reading before) args)
given_named reading kind before name args = item_of kind name [] ∷ []

-- what a command has given while it stands open, after these
unfoldable pub given : Reading → List (List ℕ) → List ℕ → List Item
given reading before (sign ∷ a ∷ b ∷ args) =
    given_named reading (kind_named reading sign a b) before (name_of sign a b) args
given reading before _ = []

abbrev pub at_end_named : Reading → Kind → List (List ℕ) → Name → List ℕ → List Item
at_end_named reading kinds.FieldHex before name args =
    item_of kinds.FieldHex name (kept_of (parameters args)) ∷ []
at_end_named reading (kinds.Plain k) before name args =
    item_of (kinds.Plain k) name (kept_of (parameters args)) ∷ []
at_end_named reading kinds.Graphic before name args =
    if is_whole args then graphic name args else item_of kinds.Graphic name (kept_of (parameters args)) ∷ []
at_end_named reading kinds.FieldData before name args =
    item_of kinds.FieldData name [] ∷ data_items (text_at_end (indicator reading before) args)
at_end_named reading kind before name args = item_of kind name [] ∷ []

-- what it has given once a sign has ended it
unfoldable pub at_end : Reading → List (List ℕ) → List ℕ → List Item
at_end reading before (sign ∷ a ∷ b ∷ args) =
    at_end_named reading (kind_named reading sign a b) before (name_of sign a b) args
at_end reading before _ = []

unfoldable pub all_ended : Reading → List (List ℕ) → List Item
all_ended reading [] = []
all_ended reading (command ∷ before) = all_ended reading before ++ at_end reading before command

-- the items of the commands that have ended, and what the open one has given
abbrev pub items_in : Reading → Cut → List Item
items_in reading s = all_ended reading s.before ++ given reading s.before s.open_one

unfoldable pub items : Reading → List ℕ → List Item
items reading bytes = items_in reading (cut reading bytes)

-- whether a command takes more bytes, as parameters or data
abbrev pub goes_on_named : Kind → List ℕ → Bool
goes_on_named kinds.FieldHex args = true
goes_on_named (kinds.Plain k) args = true
goes_on_named kinds.FieldData args = true
goes_on_named kinds.Graphic args = if is_whole args && is_b (head args) then is_short args else true
goes_on_named _ args = false

-- inside a name or binary data, and in a format also inside parameters or data
unfoldable pub is_within_one : Reading → Bool → List ℕ → Bool
is_within_one reading opened [] = false
is_within_one reading opened (sign ∷ a ∷ b ∷ args) =
    wants_binary reading (sign ∷ a ∷ b ∷ args)
    || (opened && goes_on_named (kind_named reading sign a b) args)
is_within_one reading opened (sign ∷ name) = true

abbrev pub rests : Reading → Cut → Bool
rests reading s = not (is_within_one reading (in_format reading (s.open_one ∷ s.before)) s.open_one)

-- nothing is begun that more bytes have to end
unfoldable pub at_rest : Reading → List ℕ → Bool
at_rest reading bytes = rests reading (cut reading bytes)

-- of how many bytes an item is at least: a command of the three of its name, and each byte of data of one
abbrev pub least_by : Item → ℕ
least_by (Given _ _ _) = 3
least_by (Data _) = 1

-- and items
abbrev pub least_bytes : List Item → ℕ
least_bytes [] = 0
least_bytes (item ∷ items) = least_by item + least_bytes items
