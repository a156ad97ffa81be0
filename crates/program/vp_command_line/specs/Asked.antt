-- What the words ask for.
use Rattle.std.specs.Prelude.{◌≡◌, ◌⊎◌, Bool, true, false, if◌then◌else◌, List, [], Option, Some, None, option_map, option_and_then, Result, Ok, Err, codes}
use Rattle.std.specs.Borrow.{Bor}
use Rattle.std.specs.Option.{option_map_or}
use Rattle.std.specs.Str.{bytes_eq}
use Rattle.clap.specs.Words.{HasKind, Row, Text, fault_of, first_of, kind_of, subcommand_of}
use Rattle.clap.specs.declared.error.Error.{Error}
use Rattle.clap.specs.declared.error.kind.ErrorKind.TheVariants.{MissingSubcommand}
use Rattle.vp_language.specs.declared.language.Language.{Language}
use Rattle.vp_language.specs.declared.language.Language.TheVariants as languages
use Rattle.vp_command_line.specs.declared.order.Form.{Form}
use Rattle.vp_command_line.specs.declared.order.Form.TheVariants as form
use Rattle.vp_command_line.specs.declared.order.Order.{Order}
use Rattle.vp_command_line.specs.declared.order.Order.TheVariants.{Read, Join}
use Rattle.vp_command_line.specs.declared.order.Task.{Task}
use Rattle.vp_command_line.specs.declared.order.Task.TheVariants.{Print, List as ListAll, ListWithOffsets}
use Rattle.vp_command_line.specs.Words.{Choices, program}

-- what is asked for: to print with the sheets of these files, to list with places or without, each what a file
-- or standard input has, or to join the images of a file, to this form
pub data Asked : Type 0 where
  Prints : Language → (font_a font_b file : Option Text) → Asked
  Lists : (with_offsets : Bool) → Language → (file : Option Text) → Asked
  Joins : Form → (file : Text) → Asked

-- ---- of the matches of a subcommand

-- a flag is given
abbrev pub is_given : Text → List Row → Bool
is_given flag rows = option_map_or (λ value. bytes_eq value (codes "true")) (first_of flag rows) false

abbrev pub is_whole : List Row → Bool
is_whole rows = is_given (codes "whole") rows

abbrev pub receipts : Bool → Language
receipts whole = if whole then languages.WholeReceipt else languages.Receipt

abbrev pub receipts_58 : Bool → Language
receipts_58 whole = if whole then languages.WholeReceipt58 else languages.Receipt58

abbrev pub labels : Bool → Language
labels whole = if whole then languages.WholeLabel else languages.Label

abbrev pub is_text : Text → Option Text → Bool
is_text text value = option_map_or (λ v. bytes_eq v text) value false

abbrev pub language_of_width : Option Text → Bool → Language
language_of_width width whole =
    if is_text (codes "384") width then receipts_58 whole else receipts whole

abbrev pub language_named : Option Text → Bool → Language
language_named name whole = if is_text (codes "label") name then labels whole else receipts whole

abbrev pub form_of : Bool → Form
form_of png = if png then form.Png else form.Pbm

abbrev pub receipt_asked : List Row → Asked
receipt_asked rows = Prints (language_of_width (first_of (codes "width") rows) (is_whole rows))
    (first_of (codes "font-a") rows) (first_of (codes "font-b") rows) (first_of (codes "FILE") rows)

-- labels have no font but A
abbrev pub labels_asked : List Row → Asked
labels_asked rows =
    Prints (labels (is_whole rows)) (first_of (codes "font-a") rows) None (first_of (codes "FILE") rows)

abbrev pub list_asked : List Row → Asked
list_asked rows = Lists (is_given (codes "offsets") rows)
    (language_named (first_of (codes "lang") rows) (is_whole rows)) (first_of (codes "FILE") rows)

abbrev pub join_asked : List Row → Option Asked
join_asked rows =
    option_map (Joins (form_of (is_given (codes "png") rows))) (first_of (codes "FILE") rows)

-- what a subcommand asks for; that of receipts is the only one but these three
abbrev pub asked_by : Text → List Row → Option Asked
asked_by name rows = if bytes_eq name (codes "join") then join_asked rows
    else (if bytes_eq name (codes "list") then Some (list_asked rows)
    else (if bytes_eq name (codes "label") then Some (labels_asked rows)
    else Some (receipt_asked rows)))

abbrev pub asked_in : Option (Text × List Row) → Option Asked
asked_in = option_and_then (λ p. asked_by p.0 p.1)

-- ---- of an order

abbrev pub name_in : Option (Bor Text) → Option Text
name_in = option_map (λ s. s.now)

abbrev pub stream_asked : Task → Language → Option Text → Asked
stream_asked (Print fonts) language file = Prints language (name_in fonts.a) (name_in fonts.b) file
stream_asked ListAll language file = Lists false language file
stream_asked ListWithOffsets language file = Lists true language file

abbrev pub asked : Order → Asked
asked (Read stream) = stream_asked stream.task stream.language (name_in stream.file)
asked (Join name to) = Joins to name.now

-- ---- of words

-- what the parser makes of the words of a program: what they ask for, if anything, only where nothing is wrong
-- with them; or an error, which is want of memory or of a kind that these words get, help and the version
-- among them
abbrev pub IsReading : Choices → List Text → Result (Option Order) Error → Type 0
IsReading choices words (Ok order) = (fault_of (program choices) words ≡ [])
    × (asked_in (subcommand_of (program choices) words) ≡ option_map asked order)
IsReading choices words (Err error) = HasKind (fault_of (program choices) words) error

-- the same of an order, which is missing where no subcommand is named, or no file to be joined
abbrev pub IsAnswer : Choices → List Text → Result Order Error → Type 0
IsAnswer choices words (Ok order) = (fault_of (program choices) words ≡ [])
    × (asked_in (subcommand_of (program choices) words) ≡ Some (asked order))
IsAnswer choices words (Err error) = HasKind (fault_of (program choices) words) error
    ⊎ ((kind_of error ≡ MissingSubcommand) × (asked_in (subcommand_of (program choices) words) ≡ None))
