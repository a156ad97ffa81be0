-- What a reader holds, beside the bytes that it has taken.
use Rattle.std.specs.Prelude.{◌≡◌, ℕ, ◌+◌, ◌*◌, ◌<◌, ◌≤◌, ◌==◌, Bool, true, false, not, ◌&&◌, ◌||◌, is_none}
use Rattle.std.specs.Prelude.{Option, Some, None, Result, Ok, Err, List, [], ◌∷◌, ◌++◌, length, take, drop}
use Rattle.std.specs.Prelude.{map, nat_lt, slice_index, option_to_list, if◌then◌else◌}
use Rattle.std.specs.List.{list_any}
use Rattle.vp_esc.specs.declared.reading.Reading.{Reading}
use Rattle.vp_esc.specs.declared.item.TheConstants.{DATA_BYTES}
use Rattle.vp_esc.specs.declared.item.EscItem.{EscItem}
use Rattle.vp_esc.specs.declared.item.EscItem.TheVariants as items
use Rattle.vp_dots.specs.declared.fault.Fault.{Fault}
use Rattle.vp_esc.specs.declared.item.Lead.{Lead}
use Rattle.vp_esc.specs.declared.item.ColumnMode.{ColumnMode}
use Rattle.vp_esc.specs.declared.item.ColumnMode.TheVariants.{Single8, Double8, Single24, Double24}
use Rattle.vp_esc.specs.declared.item.RasterScale.{RasterScale}
use Rattle.vp_esc.specs.declared.command.Command.{Command}
use Rattle.vp_esc.specs.declared.command.Command.TheVariants as commands
use Rattle.vp_esc.specs.declared.reader.EscReader.{EscReader}
use Rattle.vp_esc.specs.declared.reader.Data.{Data}
use Rattle.vp_esc.specs.declared.reader.Data.TheVariants as kinds
use Rattle.vp_esc.specs.declared.reader.Phase.{Phase}
use Rattle.vp_esc.specs.declared.reader.Phase.TheVariants.{Ground, AfterLead, Arguments, Stops, Bytes}
use Rattle.vp_esc.specs.declared.reader.Phase.TheVariants.{TallColumns, SymbolToZero, SymbolData, Qr, Stopped}
use Rattle.vp_esc.specs.Values.{is_kind_to_zero, column_mode_of, column_bytes}
use Rattle.vp_esc.specs.Command.{lead_of, lead_byte, command_of, head_len, is_listed}
use Rattle.vp_esc.specs.Units.{is_unfinished, given, fault_in, rises_from, data_len, given_by, word_at, is_counted}
use Rattle.vp_esc.specs.Units.{single_item, prints_rows, is_skipped, stores_bytes, is_listed_name}
use Rattle.vp_esc.specs.Qr.{begins_store}
use Rattle.vp_esc.specs.Split.{split}

-- the last number, or d
abbrev pub last_or : ℕ → List ℕ → ℕ
last_or d [] = d
last_or d (n ∷ ns) = last_or n ns

-- the bytes of a column of 24 dots that isn't whole
abbrev pub part_of_column : List ℕ → List ℕ
part_of_column (a ∷ b ∷ c ∷ bytes) = part_of_column bytes
part_of_column bytes = bytes

-- the rest is this command with these arguments
pub record Begun (reading : Reading) (lead : Lead) (name : ℕ) (command : Command) (args rest : List ℕ)
    : Type 0 where
  pub named : command_of reading lead name ≡ Some command
  pub bytes : rest ≡ lead_byte lead ∷ name ∷ args
  pub listed : is_listed reading command args ≡ true

-- the front is no command of the table
pub record IsNoCommand (reading : Reading) (lead : Lead) (name : ℕ) (args front : List ℕ) : Type 0 where
  pub bytes : front ≡ lead_byte lead ∷ name ∷ args
  pub unknown : is_listed_name reading (command_of reading lead name) args ≡ false

-- `left` bytes of data are left
pub record HasLeft (command : Command) (args : List ℕ) (left : ℕ) : Type 0 where
  pub head : head_len command args ≤ length args
  pub some_left : 0 < left
  pub count : length args + left ≡ head_len command args + data_len command args

-- what the bytes of a raster that is printed give
abbrev pub raster_items : List ℕ → List EscItem
raster_items bytes = map (λ b. items.RasterByte b) bytes

-- what bytes that are stored for a QR symbol give
abbrev pub stored_items : List ℕ → List EscItem
stored_items bytes = map (λ b. items.QrByte b) bytes

-- a character, or a control that does nothing: no lead of a command, and no HT, LF, FF or CAN
abbrev pub is_text : ℕ → Bool
is_text b = is_none (lead_of b) && not (b == 0x09 || b == 0x0A || b == 0x0C || b == 0x18)

-- what they give
abbrev pub text_items : List ℕ → List EscItem
text_items bytes = map (λ b. single_item b) bytes

-- what the bytes of data give, one by one
abbrev pub data_items : Data → List ℕ → List EscItem
data_items kinds.Skipped bytes = []
data_items kinds.Raster bytes = map (λ b. items.RasterByte b) bytes
data_items kinds.Columns bytes = map (λ b. items.Column8 b) bytes
data_items kinds.Stored bytes = map (λ b. items.QrByte b) bytes

-- what a byte of data gives
abbrev pub data_item : Data → ℕ → Option EscItem
data_item kinds.Skipped b = None
data_item kinds.Raster b = Some (items.RasterByte b)
data_item kinds.Columns b = Some (items.Column8 b)
data_item kinds.Stored b = Some (items.QrByte b)

-- bytes of a raster that is printed
abbrev pub are_rows : Data → Bool
are_rows kinds.Raster = true
are_rows _ = false

abbrev pub give_nothing : Data → Bool
give_nothing kinds.Skipped = true
give_nothing _ = false

abbrev pub are_stored : Data → Bool
are_stored kinds.Stored = true
are_stored _ = false

-- the phase before `left` bytes of data
abbrev pub bytes_or_ground : Data → ℕ → Phase
bytes_or_ground kind left = if left == 0 then Ground else Bytes kind left

abbrev pub tall_or_ground : ℕ → Phase
tall_or_ground left = if left == 0 then Ground else TallColumns left

abbrev pub columns_or_ground : ColumnMode → ℕ → Phase
columns_or_ground Single8 count = bytes_or_ground kinds.Columns count
columns_or_ground Double8 count = bytes_or_ground kinds.Columns count
columns_or_ground Single24 count = tall_or_ground (3 * count)
columns_or_ground Double24 count = tall_or_ground (3 * count)

abbrev pub qr_or_ground : ℕ → ℕ → Phase
qr_or_ground count left = if left == 0 then Ground else Qr count left

-- behind these values of GS ( k
abbrev pub behind_values : List ℕ → ℕ → ℕ → Phase
behind_values values count left =
    if begins_store values then bytes_or_ground kinds.Stored left else qr_or_ground count left

-- what the bytes of a raster are
abbrev pub raster_data : Option RasterScale → Data
raster_data None = kinds.Skipped
raster_data (Some scale) = kinds.Raster

pub record InArguments (r : EscReader) (command : Command) (rest : List ℕ) : Type 0 where
  pub begun : Begun r.reading r.lead r.name command r.kept.items rest
  pub few : length r.kept.items < head_len command r.kept.items

pub record InStops (r : EscReader) (last : ℕ) (rest : List ℕ) : Type 0 where
  pub begun : Begun r.reading r.lead r.name commands.TabStops r.kept.items rest
  pub rise : rises_from 0 r.kept.items ≡ true
  pub few : length r.kept.items < 32
  pub last_is : last ≡ last_or 0 r.kept.items

pub record InBytes (r : EscReader) (kind : Data) (left : ℕ) (rest : List ℕ) : Type 0 where
  pub command : Command
  pub args : List ℕ
  pub begun : Begun r.reading r.lead r.name command args rest
  pub counted : is_counted command args ≡ true
  pub left_is : HasLeft command args left
  pub rows : prints_rows command args ≡ are_rows kind
  pub skipped : is_skipped command args ≡ give_nothing kind
  pub stored : (more : List ℕ) → stores_bytes command (args ++ more) ≡ are_stored kind
  pub gives : (more : List ℕ) → given_by r.reading r.lead r.name command (args ++ more)
      ≡ given_by r.reading r.lead r.name command args ++ data_items kind more

pub record InTallColumns (r : EscReader) (left : ℕ) (rest : List ℕ) : Type 0 where
  pub args : List ℕ
  pub begun : Begun r.reading r.lead r.name commands.Columns args rest
  pub left_is : HasLeft commands.Columns args left
  pub tall : column_bytes (column_mode_of (slice_index args 0)) ≡ 3
  pub part : r.kept.items ≡ part_of_column (drop 3 args)

pub record InSymbolToZero (r : EscReader) (kind : ℕ) (more : Bool) (rest : List ℕ) : Type 0 where
  pub codes : List ℕ
  pub begun : Begun r.reading r.lead r.name commands.Symbol (kind ∷ codes) rest
  pub to_zero : is_kind_to_zero kind ≡ true
  pub no_zero : list_any (λ b. b == 0) codes ≡ false
  pub kept : r.kept.items ≡ take DATA_BYTES codes
  pub beyond : more ≡ nat_lt DATA_BYTES (length codes)

pub record InSymbolData (r : EscReader) (kind left : ℕ) (rest : List ℕ) : Type 0 where
  pub count : ℕ
  pub begun : Begun r.reading r.lead r.name commands.Symbol (kind ∷ count ∷ r.kept.items) rest
  pub counted : is_kind_to_zero kind ≡ false
  pub some_left : 0 < left
  pub sum : length r.kept.items + left ≡ count
  pub fits : count < 256

pub record InQr (r : EscReader) (count left : ℕ) (rest : List ℕ) : Type 0 where
  pub args : List ℕ
  pub begun : Begun r.reading r.lead r.name commands.Function args rest
  pub left_is : HasLeft commands.Function args left
  pub is_qr : slice_index args 0 ≡ 0x6B
  pub count_is : count ≡ word_at args 1
  pub kept : r.kept.items ≡ take DATA_BYTES (drop 3 args)
  pub not_stored : begins_store (drop 3 args) ≡ false

-- the rest that a reader is in, by its phase
abbrev pub in_phase : Phase → EscReader → List ℕ → Type 0
in_phase Ground r rest = rest ≡ []
in_phase AfterLead r rest = rest ≡ lead_byte r.lead ∷ []
in_phase (Arguments command) r rest = InArguments r command rest
in_phase (Stops last) r rest = InStops r last rest
in_phase (Bytes kind left) r rest = InBytes r kind left rest
in_phase (TallColumns left) r rest = InTallColumns r left rest
in_phase (SymbolToZero kind more) r rest = InSymbolToZero r kind more rest
in_phase (SymbolData kind left) r rest = InSymbolData r kind left rest
in_phase (Qr count left) r rest = InQr r count left rest
in_phase (Stopped fault) r rest = fault_in r.reading rest ≡ Some fault

abbrev pub StandsIn : EscReader → List ℕ → Type 0
StandsIn r rest = in_phase r.phase r rest

-- the reader reads so, and stands after these bytes
unfoldable pub Stands : Reading → EscReader → List ℕ → Type 0
Stands reading r bytes = (r.reading ≡ reading) × StandsIn r (split reading bytes).rest

-- what comes of a byte: just the items that are given beyond those before, or the fault
abbrev pub Gives : Result (Option EscItem) Fault → List EscItem → List EscItem → Option Fault → Type 0
Gives (Ok item) before after fault = (fault ≡ None) × (after ≡ before ++ option_to_list item)
Gives (Err f) before after fault = fault ≡ Some f

abbrev pub rest_of : Reading → List ℕ → List ℕ
rest_of reading front = if is_unfinished reading front then front else []

-- from this rest, by this byte, to new
pub record Advances (reading : Reading) (result : Result (Option EscItem) Fault) (rest : List ℕ) (c : ℕ)
    (new : EscReader) : Type 0 where
  pub reads : new.reading ≡ reading
  pub gives : Gives result (given reading rest) (given reading (rest ++ c ∷ []))
      (fault_in reading (rest ++ c ∷ []))
  pub stands : StandsIn new (rest_of reading (rest ++ c ∷ []))

-- by the last byte of this front, of which nothing was given before, to new
pub record Lands (reading : Reading) (item : Option EscItem) (front : List ℕ) (new : EscReader) : Type 0 where
  pub reads : new.reading ≡ reading
  pub fault : fault_in reading front ≡ None
  pub gives : given reading front ≡ option_to_list item
  pub stands : StandsIn new (rest_of reading front)
