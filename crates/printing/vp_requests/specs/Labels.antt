-- The commands of a label that ask (ZPL II, "host" commands and those for the printer's state). Both readings of
-- labels divide a stream alike, so that the profile's tells of either.
use Rattle.std.specs.Prelude.{ℕ, suc, ◌+◌, ◌==◌, Bool, not, ◌&&◌, Option, None, Some, List, [], ◌∷◌, length}
use Rattle.std.specs.Prelude.{reverse, nat_lt, if◌then◌else◌}
use Prim.Native.Char.{code}
use Rattle.vp_streams.specs.Count.{counted}
use Rattle.vp_zpl.specs.Spelling.{is_sign, is_line_end, capital}
use Rattle.vp_zpl.specs.declared.reading.Reading.TheVariants.{Profile}
use Rattle.vp_zpl.specs.Commands.{cut, cut_back, longer, wants_binary}
use Rattle.vp_requests.specs.declared.request.Ask.{Ask}
use Rattle.vp_requests.specs.declared.request.Ask.TheVariants as asks
use Rattle.vp_requests.specs.declared.request.Request.{Request}
use Rattle.vp_requests.specs.declared.request.TheConstants.{MOST_ARGUMENTS}
use Rattle.vp_requests.specs.Request.{request_of}

-- ~H.
abbrev pub tilde_h_ask : ℕ → Option Ask
tilde_h_ask b =
    if b == code "S" then Some asks.HostStatus
    else if b == code "I" then Some asks.HostIdentification
    else if b == code "M" then Some asks.HostMemory
    else if b == code "U" then Some asks.HostAlerts
    else if b == code "D" then Some asks.HeadDiagnostic
    else if b == code "B" then Some asks.BatteryStatus
    else if b == code "Q" then Some asks.HostQuery
    else None

-- ~J.
abbrev pub tilde_j_ask : ℕ → Option Ask
tilde_j_ask b =
    if b == code "A" then Some asks.CancelAll
    else if b == code "R" then Some asks.PowerOnReset
    else if b == code "X" then Some asks.CancelFormat
    else None

-- ~P.
abbrev pub tilde_p_ask : ℕ → Option Ask
tilde_p_ask b =
    if b == code "P" then Some asks.Pause
    else if b == code "S" then Some asks.PrintStart
    else None

abbrev pub tilde_ask : ℕ → ℕ → Option Ask
tilde_ask a b =
    if a == code "H" then tilde_h_ask b
    else if a == code "J" then tilde_j_ask b
    else if a == code "P" then tilde_p_ask b
    else if a == code "S" && b == code "D" then Some asks.SetDarkness
    else None

-- ^H.
abbrev pub caret_ask : ℕ → ℕ → Option Ask
caret_ask a b =
    if not (a == code "H") then None
    else if b == code "H" then Some asks.Configuration
    else if b == code "V" then Some asks.HostVerification
    else if b == code "W" then Some asks.HostDirectory
    else if b == code "Z" then Some asks.DisplayDescription
    else if b == code "F" then Some asks.HostFormat
    else if b == code "G" then Some asks.HostGraphic
    else if b == code "Y" then Some asks.UploadGraphics
    else if b == code "T" then Some asks.LinkedFonts
    else None

-- a name in capitals
abbrev pub ask_named : ℕ → ℕ → ℕ → Option Ask
ask_named sign a b =
    if sign == code "~" then tilde_ask a b
    else if sign == code "^" then caret_ask a b
    else None

-- what a command asks; its name is read in either case
unfoldable pub ask_of : List ℕ → Option Ask
ask_of (sign ∷ a ∷ b ∷ args) = ask_named sign (capital a) (capital b)
ask_of _ = None

-- how many bytes of arguments are waited for, unless another command begins before
abbrev pub most_arguments : Ask → ℕ
most_arguments asks.HostQuery = 2
most_arguments asks.SetDarkness = 2
most_arguments asks.HostVerification = MOST_ARGUMENTS
most_arguments asks.HostDirectory = MOST_ARGUMENTS
most_arguments asks.DisplayDescription = MOST_ARGUMENTS
most_arguments asks.HostFormat = MOST_ARGUMENTS
most_arguments asks.HostGraphic = MOST_ARGUMENTS
most_arguments asks.UploadGraphics = MOST_ARGUMENTS
most_arguments asks.LinkedFonts = MOST_ARGUMENTS
most_arguments _ = 0

-- a command begins with this byte: a sign that is no binary data
abbrev pub begins : List ℕ → ℕ → Bool
begins command c = is_sign c && not (wants_binary Profile command)

-- the end of a line, which is dropped where it is no binary data
abbrev pub is_dropped : List ℕ → ℕ → Bool
is_dropped command c = is_line_end c && not (wants_binary Profile command)

-- where the command begins that stands open behind these bytes, the newest first
unfoldable pub begun_back : List ℕ → ℕ
begun_back [] = 0
begun_back (c ∷ before) =
    if begins (cut_back Profile before).open_one c then length before else begun_back before

-- and behind these
abbrev pub begun_at : List ℕ → ℕ
begun_at bytes = begun_back (reverse bytes)

abbrev pub asked_if : Bool → Ask → List ℕ → ℕ → ℕ → List Request
asked_if so ask command start end =
    if so then request_of ask 3 command (counted start) (counted end) ∷ [] else []

-- a command that has all the arguments that are waited for
abbrev pub full_by : Option Ask → List ℕ → ℕ → ℕ → List Request
full_by None command start end = []
full_by (Some ask) command start end =
    asked_if (length command == 3 + most_arguments ask) ask command start end

-- and one that ends with fewer
abbrev pub short_by : Option Ask → List ℕ → ℕ → ℕ → List Request
short_by None command start end = []
short_by (Some ask) command start end =
    asked_if (nat_lt (length command) (3 + most_arguments ask)) ask command start end

abbrev pub full_request : List ℕ → ℕ → ℕ → List Request
full_request command start end = full_by (ask_of command) command start end

abbrev pub short_request : List ℕ → ℕ → ℕ → List Request
short_request command start end = short_by (ask_of command) command start end

-- What a byte asks, behind those before: where it begins a command, what the open one does that ends with
-- fewer arguments; else the open one, as soon as it is full.
abbrev pub label_request : List ℕ → ℕ → List Request
label_request before c =
    if begins (cut Profile before).open_one c
    then short_request (cut Profile before).open_one (begun_at before) (length before)
    else if is_dropped (cut Profile before).open_one c then []
    else full_request (longer (cut Profile before).open_one c) (begun_at before) (suc (length before))

-- what the end of the stream asks behind these bytes
abbrev pub last_request : List ℕ → List Request
last_request bytes = short_request (cut Profile bytes).open_one (begun_at bytes) (length bytes)
