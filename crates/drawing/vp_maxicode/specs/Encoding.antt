-- The symbol of bytes: its codewords, or why there is none.
use Rattle.std.specs.Prelude.{ℕ, ◌==◌, not, nat_le, Bool, true, false, List, ◌++◌, length, Option, Some, None, if◌then◌else◌}
use Rattle.vp_maxicode.specs.declared.mode.Mode.{Mode}
use Rattle.vp_maxicode.specs.declared.mode.Mode.TheVariants.{Structured, Standard, Enhanced, Program}
use Rattle.vp_maxicode.specs.declared.mode.Carrier.{Carrier}
use Rattle.vp_maxicode.specs.declared.mode.Part.{Part}
use Rattle.vp_maxicode.specs.declared.symbol.Refusal.{Refusal}
use Rattle.vp_maxicode.specs.declared.symbol.Refusal.TheVariants.{Empty, Service, Country, Postal, Position, TooLong}
use Rattle.vp_maxicode.specs.Messages.{text}
use Rattle.vp_maxicode.specs.Primaries.{is_postal, is_three, is_part, part_words, room}
use Rattle.vp_maxicode.specs.Codewords.{padded, checked, primary, block}
use Rattle.vp_maxicode.specs.Modules.{MaxiCodeSymbol}

-- all message codewords
unfoldable pub message : Option Part → List ℕ → List ℕ
message part src = part_words part ++ (text src).words

-- why a carrier's message isn't one: its class of service, its country, or its postal code
abbrev pub carrier_refusal : Carrier → Option Refusal
carrier_refusal c =
    if not (is_three c.service) then Some Service
    else if not (is_three c.country) then Some Country
    else if not (is_postal c.postal) then Some Postal
    else None

-- why a mode has no symbol: without a carrier there must be bytes
abbrev pub mode_refusal : Mode → List ℕ → Option Refusal
mode_refusal (Structured carrier) src = carrier_refusal carrier
mode_refusal Standard src = if length src == 0 then Some Empty else None
mode_refusal Enhanced src = if length src == 0 then Some Empty else None
mode_refusal Program src = if length src == 0 then Some Empty else None

-- a part is none of two to eight
abbrev pub part_refusal : Option Part → Option Refusal
part_refusal None = None
part_refusal (Some part) = if is_part part then None else Some Position

-- why bytes have no symbol: first the mode, then the part, then their number
abbrev pub refusal_by : Option Refusal → Option Refusal → Bool → Option Refusal
refusal_by (Some why) other fits = Some why
refusal_by None (Some why) fits = Some why
refusal_by None None true = None
refusal_by None None false = Some TooLong

abbrev pub refusal : Mode → Option Part → List ℕ → Option Refusal
refusal mode part src =
    refusal_by (mode_refusal mode src) (part_refusal part) (nat_le (length (message part src)) (room mode))

-- that of data codewords
unfoldable pub symbol_in : Mode → List ℕ → MaxiCodeSymbol
symbol_in mode words =
    record { primary = checked 10 (primary mode words); even = block mode 0 words; odd = block mode 1 words }

-- that of bytes
abbrev pub symbol_of : Mode → Option Part → List ℕ → MaxiCodeSymbol
symbol_of mode part src = symbol_in mode (padded (room mode) (text src).set (message part src))
