-- The commands of a receipt that ask, each a unit of the whole reading (ESC/POS, "status commands" and those
-- that answer).
use Rattle.std.specs.Prelude.{ℕ, suc, ◌==◌, Bool, false, ◌&&◌, ◌||◌, Option, None, Some, List, [], ◌∷◌, ◌++◌}
use Rattle.std.specs.Prelude.{length, nat_lt, if◌then◌else◌}
use Rattle.vp_esc.specs.declared.reading.Reading.TheVariants.{Whole}
use Rattle.vp_esc.specs.Units.{is_unfinished}
use Rattle.vp_esc.specs.Split.{split}
use Rattle.vp_requests.specs.declared.request.Ask.{Ask}
use Rattle.vp_requests.specs.declared.request.Ask.TheVariants as asks
use Rattle.vp_requests.specs.declared.request.Request.{Request}
use Rattle.vp_requests.specs.declared.unit.TheConstants.{LONGEST_UNIT}
use Rattle.vp_requests.specs.Request.{ending_at}

-- ESC u n and ESC v
abbrev pub esc_ask : ℕ → Option Ask
esc_ask name =
    if name == 0x75 then Some asks.Drawer
    else if name == 0x76 then Some asks.Paper
    else None

-- GS ( L m fn: m 48, and fn 0 or 48, 3 or 51, 4 or 52 for the memory, 64 or 80 for the keys
abbrev pub asks_for_graphics : List ℕ → Bool
asks_for_graphics (m ∷ n ∷ more) =
    m == 0x30 && (n == 0 || n == 3 || n == 4 || n == 0x30 || n == 0x33 || n == 0x34 || n == 0x40 || n == 0x50)
asks_for_graphics _ = false

-- GS ( k cn fn m: cn 49 and fn 82, for the size of the QR symbol
abbrev pub asks_for_size : List ℕ → Bool
asks_for_size (cn ∷ n ∷ m ∷ []) = cn == 0x31 && n == 0x52
asks_for_size _ = false

-- GS ( X, by what stands behind its count
abbrev pub function_ask : ℕ → List ℕ → Option Ask
function_ask x args =
    if x == 0x48 then Some asks.Response
    else if x == 0x45 then Some asks.Setup
    else if x == 0x4C && asks_for_graphics args then Some asks.Graphics
    else if x == 0x6B && asks_for_size args then Some asks.SymbolSize
    else None

abbrev pub counted_ask : List ℕ → Option Ask
counted_ask (x ∷ low ∷ high ∷ args) = function_ask x args
counted_ask _ = None

-- GS r n, GS I n, GS a n, GS j n, GS g, and GS (
abbrev pub gs_ask : ℕ → List ℕ → Option Ask
gs_ask name args =
    if name == 0x72 then Some asks.Sensor
    else if name == 0x49 then Some asks.PrinterId
    else if name == 0x61 then Some asks.AutomaticStatus
    else if name == 0x6A then Some asks.Ink
    else if name == 0x67 && length args == 4 then Some asks.Maintenance
    else if name == 0x28 then counted_ask args
    else None

abbrev pub ask_behind : ℕ → ℕ → List ℕ → Option Ask
ask_behind lead name args =
    if lead == 0x1B then esc_ask name
    else if lead == 0x1D then gs_ask name args
    else None

abbrev pub ask_in : List ℕ → Option Ask
ask_in (lead ∷ name ∷ args) = ask_behind lead name args
ask_in _ = None

-- what a unit asks; none that asks is longer than GS ( with 16 bytes behind its count
unfoldable pub ask_of : List ℕ → Option Ask
ask_of unit = if nat_lt LONGEST_UNIT (length unit) then None else ask_in unit

-- how many bytes name it: GS ( has its third and its count
abbrev pub name_len : Ask → ℕ
name_len asks.Response = 5
name_len asks.Setup = 5
name_len asks.Graphics = 5
name_len asks.SymbolSize = 5
name_len _ = 2

abbrev pub if_asked : Option Ask → List ℕ → ℕ → List Request
if_asked None unit end = []
if_asked (Some ask) unit end = ending_at end ask (name_len ask) unit ∷ []

-- of bytes that are no whole unit yet, nothing
abbrev pub asked : Bool → List ℕ → ℕ → List Request
asked is_unfinished unit end = if is_unfinished then [] else if_asked (ask_of unit) unit end

-- what a byte asks by the unit that it ends, behind those before
abbrev pub unit_request : List ℕ → ℕ → List Request
unit_request before c =
    asked (is_unfinished Whole ((split Whole before).rest ++ c ∷ [])) ((split Whole before).rest ++ c ∷ [])
    (suc (length before))
