use Rattle.vp_label.specs.Standing.{bands}
-- What the bytes of a format bound.
use Rattle.std.proofs.Common.{◌≡◌, ◌≤◌, ℕ, zero, suc, ◌+◌, ◌-◌, ◌*◌, Bool, true, false, Option, Some, None, Result, List, [], ◌∷◌, length, reverse, refl, arith, lit≤, option_map, cond}
use Rattle.std.proofs.lemmas.Grind.{common_steps}
use Rattle.std.proofs.lemmas.Nat.{mul-le}
use Rattle.std.proofs.lemmas.List.{length_push}
use Rattle.std.proofs.lemmas.List.Sums.{sum_by_push, count_by-le-length}
use Rattle.vp_dots.specs.declared.fault.Fault.{Fault}
use Rattle.vp_dots.specs.declared.Op.{Op}
use Rattle.vp_glyph.specs.Sheets.{Sheets}
use Rattle.vp_zpl.specs.Spelling.{Kept}
use Rattle.vp_zpl.specs.declared.name.Name.{Name}
use Rattle.vp_zpl.specs.declared.item.Command.{Command}
use Rattle.vp_zpl.specs.Items.{Item, least_by, least_bytes}
use Rattle.vp_zpl.specs.Items.Item.{Given, Data}
use Rattle.vp_zpl.proofs.Least.{least_append}
use Rattle.vp_format.specs.declared.field.Content.{Content}
use Rattle.vp_format.specs.declared.field.Field.{Field}
use Rattle.vp_field.specs.declared.view.View.{View}
use Rattle.vp_label_settings.specs.declared.settings.Settings.{Settings}
use Rattle.vp_label_settings.specs.declared.parts.OpenContent.{OpenContent}
use Rattle.vp_label_settings.specs.declared.parts.FieldParts.{FieldParts}
use Rattle.vp_label_settings.specs.Formats.{acting, is_open, is_open_by, stored, stored_by}
use Rattle.vp_label_settings.specs.Parts.{content, content_by}
use Rattle.vp_label_settings.specs.Settings.{settings_of}
use Rattle.vp_closing.specs.Closing.{colour_of, field_with, field_of, operation}
use Rattle.vp_closing.specs.Contents.{content_of}
use Rattle.vp_closing.proofs.Codes.{data_in, begin_of, closed_data}
use Rattle.vp_bands.specs.Meeting.{bands_of, copy_work, pairs, field_meets}
use Rattle.vp_bands.proofs.Painted.{pairs_more, no_pairs}
use Rattle.vp_label.specs.Bytes.{format_bytes, all_codes, all_texts}
use Rattle.vp_label_settings.specs.Laws.{AreInRange}
use Rattle.vp_label.specs.Entries.{all_stored, behind_made, closed, entries, entries_by, parts_among, with_kept, printed_bytes, printed_entries}
use Rattle.vp_label.proofs.Stores.{fewer}
use Rattle.vp_label.specs.Prints.{view_of}
use Rattle.vp_label.specs.Work.{label_work, most_work}

-- The bytes of fields: two commands for each that is closed, and one for an open content, beside ^XA.

abbrev of_content : Option OpenContent → ℕ
of_content None = 0
of_content (Some o) = 3

abbrev of_start : Bool → ℕ
of_start true = 3
of_start false = 0

abbrev spent : List Field → Option OpenContent → List ℕ → Bool → ℕ
spent fields c bytes opened = 6 * length fields + of_content c + length bytes + of_start opened

kept_few : (fields : List Field) (g : OpenContent → Result Field Fault) (made : ℕ) (c : Option OpenContent) → 6 * length (with_kept fields (option_map g (option_map (behind_made made) c))) ≤ 6 * length fields + 2 * of_content c
kept_few fields g made None = omega arith
kept_few fields g made (Some o) = grind (arith, length_push)

none_open : (before : List Item) → is_open before ≡ false → format_bytes before ≡ 0
none_open [] e = refl
none_open (item ∷ before) e = rw e refl

-- what a command leaves
command_spent : (command : Command) (name : Name) (sent : List Kept) (opened : Bool) (closed : Option (Result Field Fault)) (fields : List Field) (c : Option OpenContent) (bytes : List ℕ) (start n : ℕ)
    → (opened ≡ false → n ≡ 0) → 6 * length (with_kept fields closed) ≤ 6 * length fields + 2 * of_content c → spent fields c bytes opened ≤ n
    → spent (acting (entries_by closed) opened (Given command name sent) fields) (acting (content_by start) opened (Given command name sent) c) (cond opened (stored_by command bytes) bytes) (is_open_by command opened)
    ≤ cond (is_open_by command opened) (least_by (Given command name sent) + n) 0
command_spent command name sent opened closed fields c bytes start n shut few h = grind arith

all_spent : (sheets : Sheets) (before : List Item) → spent (entries sheets before) (content before) (stored before) (is_open before) ≤ format_bytes before
all_spent sheets [] = lit≤ tt
all_spent sheets (Given c name sent ∷ before) =
    command_spent c name sent (is_open before) (closed sheets before) (entries sheets before) (content before) (stored before) (length (stored before)) (format_bytes before) (λ shut. none_open before shut)
    (kept_few (entries sheets before) (field_of sheets (all_stored before) (settings_of before) (parts_among before (all_stored before))) (length (all_stored before) - length (stored before)) (content before)) (all_spent sheets before)
all_spent sheets (Data byte ∷ before) = grind (arith, common_steps, none_open, all_spent sheets before)

-- The texts and codes of closed fields stand before the bytes of the open content.

abbrev all_data : List Field → ℕ
all_data fields = all_codes fields + all_texts fields

abbrev begin_by : Option OpenContent → ℕ → ℕ
begin_by None len = len
begin_by (Some o) len = begin_of o len

record Codes (fields : List Field) (c : Option OpenContent) (bytes : List ℕ) : Type 0 where
  codes : all_data fields ≤ begin_by c (length bytes)
  within : begin_by c (length bytes) ≤ length bytes

kept_with : (sheets : Sheets) (bytes : List ℕ) (s : Settings) (p : FieldParts) (op : Op) (fields : List Field) (r : Result Content Fault)
    → all_data (with_kept fields (Some (field_with sheets bytes s p op r))) ≤ all_data fields + data_in r
kept_with sheets bytes s p op fields r = grind (arith, sum_by_push)

-- as many bytes stand behind the begin of a content that stands behind what was made
begin_moved : (made given all : ℕ) (o : OpenContent) → made + given ≡ all → all - begin_of (behind_made made o) all ≡ given - begin_of o given
begin_moved made given all o e = grind arith

kept_codes : (sheets : Sheets) (all bytes : List ℕ) (s : Settings) (p : FieldParts) (fields : List Field) (made : ℕ) (c : Option OpenContent)
    → made + length bytes ≡ length all → Codes fields c bytes → all_data (with_kept fields (option_map (field_of sheets all s p) (option_map (behind_made made) c))) ≤ length bytes
kept_codes sheets all bytes s p fields made None e h = omega (arith, h.codes)
kept_codes sheets all bytes s p fields made (Some o) e h =
    let few = kept_with sheets all s p (operation s p (colour_of (behind_made made o))) fields (content_of all s p (behind_made made o)) in
    let text = closed_data all s p (behind_made made o) in
    let moved = begin_moved made (length bytes) (length all) o e in
    omega (arith, few, text, moved, h.codes, h.within)

-- the data are fewer than all bytes by what was made
made_is : (before : List Item) → (length (all_stored before) - length (stored before)) + length (stored before) ≡ length (all_stored before)
made_is before = let few = fewer before in omega (arith, few)

kept_among : (sheets : Sheets) (before : List Item) → Codes (entries sheets before) (content before) (stored before) → all_data (printed_entries sheets before) ≤ length (stored before)
kept_among sheets before h =
    kept_codes sheets (all_stored before) (stored before) (settings_of before) (parts_among before (all_stored before)) (entries sheets before) (length (all_stored before) - length (stored before)) (content before) (made_is before) h

command_codes : (command : Command) (name : Name) (sent : List Kept) (opened : Bool) (closed : Option (Result Field Fault)) (fields : List Field) (c : Option OpenContent) (bytes : List ℕ)
    → all_data (with_kept fields closed) ≤ length bytes → Codes fields c bytes
    → Codes (acting (entries_by closed) opened (Given command name sent) fields) (acting (content_by (length bytes)) opened (Given command name sent) c) (cond opened (stored_by command bytes) bytes)
command_codes command name sent opened closed fields c bytes few h = grind arith

codes_within : (sheets : Sheets) (before : List Item) → Codes (entries sheets before) (content before) (stored before)
codes_within sheets [] = record { codes = lit≤ tt; within = lit≤ tt }
codes_within sheets (Given c name sent ∷ before) =
    let h = codes_within sheets before in
    command_codes c name sent (is_open before) (closed sheets before) (entries sheets before) (content before) (stored before) (kept_among sheets before h) h
codes_within sheets (Data byte ∷ before) = grind (arith, codes_within sheets before, length_push)

-- The image that ^XZ prints, which closes the last field.

in_all : (opened : Bool) (c : Option OpenContent) (fields bytes all n : ℕ) → fields + of_content c + bytes + of_start opened ≤ n → (opened ≡ false → n ≡ 0) → all ≤ fields + 2 * of_content c → all + bytes ≤ n
in_all opened c fields bytes all n h shut few = grind arith

pub fields_few : (sheets : Sheets) (before : List Item) → 6 * length (printed_entries sheets before) + all_codes (printed_entries sheets before) + all_texts (printed_entries sheets before) ≤ format_bytes before
fields_few sheets before =
    let few = kept_few (entries sheets before) (field_of sheets (all_stored before) (settings_of before) (parts_among before (all_stored before))) (length (all_stored before) - length (stored before)) (content before) in
    let all = in_all (is_open before) (content before) (6 * length (entries sheets before)) (length (stored before)) (6 * length (printed_entries sheets before)) (format_bytes before) (all_spent sheets before) (λ shut. none_open before shut) few in
    omega (arith, all, kept_among sheets before (codes_within sheets before))

-- The bytes that were read.

least_reverse : (items : List Item) → least_bytes (reverse items) ≡ least_bytes items
least_reverse [] = refl
least_reverse (item ∷ items) = grind (arith, common_steps, least_append, least_reverse items)

format_least : (before : List Item) → format_bytes before ≤ least_bytes before
format_least [] = lit≤ tt
format_least (item ∷ before) = grind (arith, format_least before)

pub bytes_read : (items : List Item) (n : ℕ) → least_bytes items ≤ n → format_bytes (reverse items) ≤ n
bytes_read items n h = omega (arith, h, format_least (reverse items), least_reverse items)

-- What a copy takes.

pairs_few : (sheets : Sheets) (bytes : List ℕ) (view : View) (fields : List Field) (n : ℕ) → pairs sheets bytes view fields n ≤ n * length fields
pairs_few sheets bytes view fields zero = omega (arith, no_pairs sheets bytes view fields)
pairs_few sheets bytes view fields (suc n) = grind (arith, pairs_more sheets bytes view fields n, pairs_few sheets bytes view fields n, count_by-le-length (field_meets sheets bytes view n) fields)

copy_plain : (bands fields codes texts bytes met work : ℕ) → work ≤ 43960 * met + 262 * (bands * texts) + 2 * (bands * codes) → met ≤ bands * fields → 6 * fields + codes + texts ≤ bytes → work ≤ 7327 * (bands * bytes)
copy_plain bands fields codes texts bytes met work w m few = grind (arith, mul-le bands (6 * fields + codes + texts) bands bytes (omega arith) few)

pub copy_few : (sheets : Sheets) (before : List Item) (view : View) (n : ℕ)
    → copy_work sheets (printed_bytes before) view (printed_entries sheets before) n ≤ 43960 * pairs sheets (printed_bytes before) view (printed_entries sheets before) n + 262 * (n * all_texts (printed_entries sheets before)) + 2 * (n * all_codes (printed_entries sheets before))
    → copy_work sheets (printed_bytes before) view (printed_entries sheets before) n ≤ 7327 * (n * format_bytes before)
copy_few sheets before view n h =
    copy_plain n (length (printed_entries sheets before)) (all_codes (printed_entries sheets before)) (all_texts (printed_entries sheets before)) (format_bytes before) _ _ h
    (pairs_few sheets (printed_bytes before) view (printed_entries sheets before) n) (fields_few sheets before)

-- The label that was printed last.

module _ (sheets : Sheets) (copy : (before : List Item) → label_work sheets before ≤ 7327 * (bands_of (view_of (settings_of before)) * format_bytes before))
    (ranges : (before : List Item) → AreInRange (settings_of before)) where
  last_least : (before : List Item) → most_work sheets before ≤ 7327 * (250 * least_bytes before)
  last_least [] = lit≤ tt
  last_least (item ∷ before) = grind (arith, format_least, last_least before, mul-le)

  pub last_few : (items : List Item) (n : ℕ) → least_bytes items ≤ n → most_work sheets (reverse items) ≤ 7327 * (250 * n)
  last_few items n h = let last = last_least (reverse items) in omega (arith, last, least_reverse items, h)
