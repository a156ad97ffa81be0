-- Bars and QR symbols as the format keeps them, or why the data have none (ZPL II, ^B3, ^BE, ^BC and ^BQ).
use Rattle.std.specs.Prelude.{ℕ, ◌+◌, ◌-◌, ◌*◌, ◌/◌, max, List, Option, Some, None, Result, Ok, Err}
use Rattle.vp_dots.specs.declared.fault.Fault.{Fault}
use Rattle.vp_bars.specs.Symbols.{Linear}
use Rattle.vp_qr.specs.Encoding.{refusal, version_of, mask_of}
use Rattle.vp_qr_field.specs.declared.front.QrFront.{QrFront}
use Rattle.vp_format.specs.declared.field.Span.{Span}
use Rattle.vp_format.specs.declared.field.BarSymbol.{BarSymbol}
use Rattle.vp_format.specs.declared.field.QrSymbol.{QrSymbol}
use Rattle.vp_format.specs.declared.field.Content.{Content}
use Rattle.vp_format.specs.declared.field.Content.TheVariants as contents
use Rattle.vp_field.specs.Contents.{bytes_of}
use Rattle.vp_bars.specs.Symbologies.{symbol_of}
use Rattle.vp_label_settings.specs.declared.settings.BarDefaults.{BarDefaults}
use Rattle.vp_label_settings.specs.declared.choice.BarChoice.{BarChoice}
use Rattle.vp_label_settings.specs.Ranges.{ranged}

-- ^BY: the dots of a wide bar, more than those of a narrow one
abbrev pub wide_bar : BarDefaults → ℕ
wide_bar d = max (d.module_dots + 1) (d.module_dots * d.ratio_tenths / 10)

-- bars that were asked for, with what ^BY says where they don't say it
abbrev pub bars : BarDefaults → BarChoice → Span → BarSymbol
bars d b bytes = record {
  bytes = bytes;
  code = b.code;
  narrow = d.module_dots;
  wide = wide_bar d;
  height = ranged 1 8000 d.height b.height;
  place = b.place;
}

abbrev pub bars_if : Result Linear Fault → BarSymbol → Result Content Fault
bars_if (Err why) bars = Err why
bars_if (Ok symbol) bars = Ok (contents.Bars bars)

-- bars, unless their data have none
abbrev pub bars_of : List ℕ → BarSymbol → Result Content Fault
bars_of stored bars = bars_if (symbol_of bars.code (bytes_of stored bars.bytes)) bars

-- the bytes behind what the data say before them
abbrev pub behind_front : QrFront → Span → Span
behind_front front bytes = record { start = bytes.start + front.length; len = bytes.len - front.length }

-- a QR symbol of bytes, with the version and the mask that they choose
abbrev pub qr_symbol : List ℕ → ℕ → QrFront → Span → QrSymbol
qr_symbol stored dots front bytes = record {
  bytes = bytes;
  level = front.level;
  mode = front.mode;
  «module» = dots;
  version = version_of front.level front.mode (bytes_of stored bytes);
  mask = mask_of front.level front.mode (bytes_of stored bytes);
}

abbrev pub qr_unless : Option Fault → QrSymbol → Result Content Fault
qr_unless (Some why) symbol = Err why
qr_unless None symbol = Ok (contents.Qr symbol)

-- ^BQ: what the data say first is looked at first, then the bytes behind it
abbrev pub qr_of : List ℕ → ℕ → Span → Result QrFront Fault → Result Content Fault
qr_of stored dots bytes (Err why) = Err why
qr_of stored dots bytes (Ok front) =
    qr_unless (refusal front.level front.mode (bytes_of stored (behind_front front bytes)))
    (qr_symbol stored dots front (behind_front front bytes))
