-- A request of these bytes.
use Rattle.std.specs.Prelude.{ℕ, ◌-◌, List, length, drop, codes}
use Rattle.vp_streams.specs.Count.{counted}
use Rattle.vp_requests.specs.declared.request.Ask.{Ask}
use Rattle.vp_requests.specs.declared.request.Ask.TheVariants as asks
use Rattle.vp_requests.specs.declared.request.Request.{Request}

-- its name is the first bytes, and its arguments are the others
abbrev pub request_of : Ask → ℕ → List ℕ → ℕ → ℕ → Request
request_of ask name_len bytes start end =
    record { ask = ask; arguments = record { items = drop name_len bytes }; start = start; end = end }

-- the same, where they stand together up to this place
abbrev pub ending_at : ℕ → Ask → ℕ → List ℕ → Request
ending_at end ask name_len bytes =
    request_of ask name_len bytes (counted (end - length bytes)) (counted end)

-- the manual's name of what is asked
unfoldable pub name_of : Ask → List ℕ
name_of asks.Status = codes "DLE EOT"
name_of asks.Recover = codes "DLE ENQ"
name_of asks.RealTime = codes "DLE DC4"
name_of asks.Sensor = codes "GS r"
name_of asks.PrinterId = codes "GS I"
name_of asks.AutomaticStatus = codes "GS a"
name_of asks.Drawer = codes "ESC u"
name_of asks.Paper = codes "ESC v"
name_of asks.Maintenance = codes "GS g"
name_of asks.Ink = codes "GS j"
name_of asks.Response = codes "GS ( H"
name_of asks.Setup = codes "GS ( E"
name_of asks.Graphics = codes "GS ( L"
name_of asks.SymbolSize = codes "GS ( k"
name_of asks.HostStatus = codes "~HS"
name_of asks.HostIdentification = codes "~HI"
name_of asks.HostMemory = codes "~HM"
name_of asks.HostAlerts = codes "~HU"
name_of asks.HeadDiagnostic = codes "~HD"
name_of asks.BatteryStatus = codes "~HB"
name_of asks.HostQuery = codes "~HQ"
name_of asks.Configuration = codes "^HH"
name_of asks.HostVerification = codes "^HV"
name_of asks.HostDirectory = codes "^HW"
name_of asks.DisplayDescription = codes "^HZ"
name_of asks.HostFormat = codes "^HF"
name_of asks.HostGraphic = codes "^HG"
name_of asks.UploadGraphics = codes "^HY"
name_of asks.LinkedFonts = codes "^HT"
name_of asks.Pause = codes "~PP"
name_of asks.PrintStart = codes "~PS"
name_of asks.CancelAll = codes "~JA"
name_of asks.PowerOnReset = codes "~JR"
name_of asks.CancelFormat = codes "~JX"
name_of asks.SetDarkness = codes "~SD"
