-- Where the readers of requests stand behind bytes, and what is still to be told of them.
use Rattle.std.specs.Prelude.{◌≡◌, ℕ, ◌+◌, ◌-◌, ◌==◌, Bool, true, false, Option, None, Some, List, [], ◌∷◌}
use Rattle.std.specs.Prelude.{◌++◌}
use Rattle.std.specs.Prelude.{length, take, nat_lt, if◌then◌else◌}
use Rattle.vp_streams.specs.Count.{counted, grown}
use Rattle.vp_esc.specs.declared.reading.Reading.TheVariants as readings
use Rattle.vp_esc.specs.Split.{split}
use Rattle.vp_esc.specs.Reader.{Stands as EscStands}
use Rattle.vp_zpl.specs.declared.reading.Reading.TheVariants.{Profile}
use Rattle.vp_zpl.specs.Spelling.{is_line_end}
use Rattle.vp_zpl.specs.Commands.{cut, longer}
use Rattle.vp_zpl.specs.Reader.{Stands as ZplStands}
use Rattle.vp_requests.specs.declared.real_time.Part.TheVariants.{Whole, Begun}
use Rattle.vp_requests.specs.declared.request.Ask.{Ask}
use Rattle.vp_requests.specs.declared.request.Request.{Request}
use Rattle.vp_requests.specs.declared.arrivals.Arrivals.{Arrivals}
use Rattle.vp_requests.specs.declared.units.Units.{Units}
use Rattle.vp_requests.specs.declared.labels.Labels.{Labels}
use Rattle.vp_requests.specs.declared.labels.TheConstants.{KEPT as COMMAND_BYTES}
use Rattle.vp_requests.specs.declared.units.TheConstants.{KEPT as UNIT_BYTES}
use Rattle.vp_requests.specs.Request.{request_of}
use Rattle.vp_requests.specs.RealTime.{part_of, begun, ask_of}
use Rattle.vp_requests.specs.Units.{name_len}
use Rattle.vp_requests.specs.Units as units
use Rattle.vp_requests.specs.Labels.{begun_at, full_by, short_by}
use Rattle.vp_requests.specs.Labels as labels
use Rattle.vp_language.specs.declared.language.Language.{Language}
use Rattle.vp_requests.specs.declared.receipts.Receipts.{Receipts}
use Rattle.vp_requests.specs.declared.requests.Machine.{Machine}
use Rattle.vp_requests.specs.declared.requests.Machine.TheVariants.{Receipt, Label}
use Rattle.vp_requests.specs.declared.requests.Requests.{Requests}
use Rattle.vp_requests.specs.Requests.{label_requests, receipt_requests, is_label}

-- the bytes that are kept are those of the request that is begun, or of one that is still to be told
pub record ArrivalsStand (a : Arrivals) (bytes : List ℕ) : Type 0 where
  pub part : part_of a.bytes.items ≡ (if a.is_whole then Whole else Begun)
  pub begun_is : begun bytes ≡ (if a.is_whole then [] else a.bytes.items)
  pub start : a.start ≡ counted (length bytes - length a.bytes.items)

-- what is still to be told, where so many bytes are taken
abbrev pub waiting_arrival : Arrivals → ℕ → List Request
waiting_arrival a end =
    if a.is_whole then request_of (ask_of a.bytes.items) 2 a.bytes.items a.start end ∷ [] else []

-- behind a byte that is no part of what was begun
abbrev pub begun_anew : Arrivals → ℕ → ℕ → Arrivals
begun_anew a c taken =
    if c == 0x10 then record a { bytes = record { items = c ∷ [] }; start = taken }
    else record a { bytes = record { items = [] }; start = grown taken 1 }

-- the front of a unit, as far as it is kept
pub record InUnit (u : Units) (rest : List ℕ) (taken : ℕ) : Type 0 where
  pub kept : u.bytes.items ≡ take UNIT_BYTES rest
  pub start : u.start ≡ counted (taken - length rest)

-- or a whole one, which is still to be told
abbrev pub unit_by : Option Ask → Units → List ℕ → ℕ → Type 0
unit_by None u rest taken = InUnit u rest taken
unit_by (Some ask) u rest taken = rest ≡ []

pub record UnitsStand (u : Units) (bytes : List ℕ) : Type 0 where
  pub reads : EscStands readings.Whole u.reader bytes
  pub unit : unit_by u.ask u (split readings.Whole bytes).rest (length bytes)

abbrev pub waiting_by : Option Ask → Units → ℕ → List Request
waiting_by None u end = []
waiting_by (Some ask) u end = request_of ask (name_len ask) u.bytes.items u.start end ∷ []

abbrev pub waiting_unit : Units → ℕ → List Request
waiting_unit u end = waiting_by u.ask u end

-- at the end of a unit
abbrev pub ended_by : Option Ask → Units → ℕ → Units
ended_by None u taken = record u { ask = None; bytes = record { items = [] }; start = grown taken 1 }
ended_by (Some ask) u taken = record u { ask = Some ask }

abbrev pub ended_unit : Units → ℕ → Units
ended_unit u taken = ended_by (units.ask_of u.bytes.items) u taken

pub record ReceiptsStand (r : Receipts) (bytes : List ℕ) : Type 0 where
  pub arrivals : ArrivalsStand r.arrivals bytes
  pub units : UnitsStand r.units bytes
  pub taken : r.taken ≡ counted (length bytes)

abbrev pub waiting : Receipts → List Request
waiting r = waiting_arrival r.arrivals r.taken ++ waiting_unit r.units r.taken

-- all that was known is told, or still to be told
pub record ReceiptsTold (r : Receipts) (bytes : List ℕ) (told : List Request) : Type 0 where
  pub stands : ReceiptsStand r bytes
  pub all : receipt_requests bytes ≡ told ++ waiting r

-- nothing is to be told
pub record IsIdle (r : Receipts) : Type 0 where
  pub arrivals : r.arrivals.is_whole ≡ false
  pub units : r.units.ask ≡ None

-- the open command, as far as it is kept
pub record LabelsStand (l : Labels) (bytes : List ℕ) : Type 0 where
  pub reads : ZplStands Profile l.reader bytes
  pub kept : l.bytes.items ≡ take COMMAND_BYTES (cut Profile bytes).open_one
  pub start : l.start ≡ counted (begun_at bytes)
  pub taken : l.taken ≡ counted (length bytes)

-- all that was known is told
pub record LabelsTold (l : Labels) (bytes : List ℕ) (told : List Request) : Type 0 where
  pub stands : LabelsStand l bytes
  pub all : label_requests bytes ≡ told

-- the requests of the bytes that are kept
abbrev pub asked_if : Bool → Ask → Labels → List Request
asked_if so ask l = if so then request_of ask 3 l.bytes.items l.start l.taken ∷ [] else []

abbrev pub kept_full_by : Option Ask → Labels → List Request
kept_full_by None l = []
kept_full_by (Some ask) l = asked_if (length l.bytes.items == 3 + labels.most_arguments ask) ask l

abbrev pub kept_short_by : Option Ask → Labels → List Request
kept_short_by None l = []
kept_short_by (Some ask) l = asked_if (nat_lt (length l.bytes.items) (3 + labels.most_arguments ask)) ask l

abbrev pub kept_full : Labels → List Request
kept_full l = kept_full_by (labels.ask_of l.bytes.items) l

abbrev pub kept_short : Labels → List Request
kept_short l = kept_short_by (labels.ask_of l.bytes.items) l

-- behind a byte of the open command
abbrev pub with_more : Labels → ℕ → Labels
with_more l c =
    record l { bytes = record { items = take COMMAND_BYTES (longer l.bytes.items c) }; taken = grown l.taken 1 }

pub record GoesOn (l : Labels) (c : ℕ) (asked : List Request) (new : Labels) : Type 0 where
  pub new_is : new ≡ with_more l c
  pub asks : asked ≡ kept_full new

-- behind a sign or the end of a line
abbrev pub with_sign : Labels → ℕ → Labels
with_sign l c = record l { bytes = record { items = c ∷ [] }; start = l.taken; taken = grown l.taken 1 }

pub record Divides (l : Labels) (c : ℕ) (asked : List Request) (new : Labels) : Type 0 where
  pub new_is : new ≡ (if is_line_end c then record l { taken = grown l.taken 1 } else with_sign l c)
  pub asks : asked ≡ (if is_line_end c then [] else kept_short l)

abbrev pub told_by : Machine → Language → List ℕ → List Request → Type 0
told_by (Label labels) language bytes told =
    (is_label language ≡ true) × LabelsTold labels bytes told
told_by (Receipt receipts) language bytes told =
    (is_label language ≡ false) × ReceiptsTold receipts bytes told

-- behind these bytes, of whose requests these were given
unfoldable pub Told : Language → Requests → List ℕ → List Request → Type 0
Told language r bytes told = told_by r.machine language bytes told

-- these are the first of the others
pub record IsFront (told all : List Request) : Type 0 where
  pub more : List Request
  pub is : all ≡ told ++ more
