-- What differs from one kind of symbol to another: which data have one, its elements, and its text.
use Rattle.std.specs.Prelude.{ℕ, ◌*◌, ◌==◌, true, false, List, [], ◌∷◌, Result, if◌then◌else◌}
use Rattle.vp_dots.specs.declared.fault.Fault.{Fault}
use Rattle.vp_bars.specs.declared.symbology.Symbology.{Symbology}
use Rattle.vp_bars.specs.declared.symbology.Symbology.TheVariants.{Code39, Ean13, Code128, Interleaved, Codabar, Code11, Msi, Ean8, UpcA, UpcE, AddOn, Code93, Code93Ascii}
use Rattle.vp_bar_code.specs.declared.BarCode.{BarCode}
use Rattle.vp_bar_code.specs.declared.BarCode.TheVariants as codes
use Rattle.vp_bar_code.specs.declared.Code128Data.TheVariants.{Escapes, Invocations, Packed}
use Rattle.vp_bars.specs.Symbols.{Linear}
use Rattle.vp_bars.specs.Code39.{code39_of}
use Rattle.vp_bars.specs.Ean13.{ean13_of}
use Rattle.vp_bars.specs.Escapes.{code128_esc_of}
use Rattle.vp_bars.specs.Packing.{code128_zpl_of}
use Rattle.vp_bars.specs.Texts.{characters, shown_by}
use Rattle.vp_bars.specs.Patterns.{code39_pattern, code128_pattern}
use Rattle.vp_bars.specs.Elements.{set_a_elements}
use Rattle.vp_bars.specs.Signs.{digits, signs_of}
use Rattle.vp_bars.specs.Codabar.{codabar_signs, codabar_of, codabar_pattern}
use Rattle.vp_bars.specs.Code11.{code11_signs, code11_of, code11_pattern, code11_end}
use Rattle.vp_bars.specs.Msi.{msi_of, msi_pattern}
use Rattle.vp_bars.specs.Code93.{code93_of, code93_pattern, code93_start, code93_stop, code93_shown, ascii_shown}
use Rattle.vp_bars.specs.Upc.{upc_pattern, digits_shown}
use Rattle.vp_bars.specs.Ean8.{ean8_of}
use Rattle.vp_bars.specs.UpcA.{upca_of}
use Rattle.vp_bars.specs.UpcE.{upce_of}
use Rattle.vp_bars.specs.AddOn.{add_on_of}
use Rattle.vp_bars.specs.Interleaved.{interleaved_of, pair_pattern, pairs_shown}

-- the symbol of the data of a bar code, or why there is none
abbrev pub symbol_of : BarCode → List ℕ → Result Linear Fault
symbol_of (codes.Code39 check) bytes = code39_of bytes check
symbol_of (codes.Ean13 padded) bytes = ean13_of bytes padded
symbol_of (codes.Code128 Escapes) bytes = code128_esc_of bytes
symbol_of (codes.Code128 Invocations) bytes = code128_zpl_of bytes false
symbol_of (codes.Code128 Packed) bytes = code128_zpl_of bytes true
symbol_of (codes.Interleaved check) bytes = interleaved_of bytes check
symbol_of (codes.Codabar ends) bytes = codabar_of bytes ends
symbol_of (codes.Code11 checks) bytes = code11_of bytes checks
symbol_of (codes.Msi checks) bytes = msi_of bytes checks
symbol_of (codes.Ean8 padded) bytes = ean8_of bytes padded
symbol_of (codes.UpcA padded) bytes = upca_of bytes padded
symbol_of (codes.UpcE kind) bytes = upce_of bytes kind
symbol_of (codes.AddOn padded) bytes = add_on_of bytes padded
symbol_of (codes.Code93 kind) bytes = code93_of bytes kind

-- the elements of a character
abbrev pub pattern_of : Symbology → ℕ → List ℕ
pattern_of Code39 v = code39_pattern v
pattern_of Ean13 v = set_a_elements v
pattern_of Code128 v = code128_pattern v
pattern_of Interleaved v = pair_pattern v
pattern_of Codabar v = codabar_pattern v
pattern_of Code11 v = code11_pattern v
pattern_of Msi v = msi_pattern v
pattern_of Ean8 v = upc_pattern v
pattern_of UpcA v = upc_pattern v
pattern_of UpcE v = upc_pattern v
pattern_of AddOn v = upc_pattern v
pattern_of Code93 v = code93_pattern v
pattern_of Code93Ascii v = code93_pattern v

-- the elements between two characters: a narrow gap, or none
abbrev pub gap_of : Symbology → List ℕ
gap_of Code39 = 0 ∷ []
gap_of Codabar = 0 ∷ []
gap_of Code11 = 0 ∷ []
gap_of _ = []

-- the elements before the first character and behind the last one, where they are no value's; a gap before
-- the stop of Code 11
abbrev pub start_of : Symbology → List ℕ
start_of Interleaved = 0 ∷ 0 ∷ 0 ∷ 0 ∷ []
start_of Code11 = code11_end
start_of Msi = 1 ∷ 0 ∷ []
start_of Code93 = code93_start
start_of Code93Ascii = code93_start
start_of _ = []

abbrev pub stop_of : Symbology → List ℕ
stop_of Interleaved = 1 ∷ 0 ∷ 0 ∷ []
stop_of Code11 = 0 ∷ code11_end
stop_of Msi = 0 ∷ 1 ∷ 0 ∷ []
stop_of Code93 = code93_stop
stop_of Code93Ascii = code93_stop
stop_of _ = []

-- how wide an element is in dots: narrow or wide, or of one to four modules
abbrev pub two_sizes : ℕ → ℕ → ℕ → ℕ
two_sizes narrow wide e = if e == 1 then wide else narrow

abbrev pub size_of : Symbology → ℕ → ℕ → ℕ → ℕ
size_of Code39 narrow wide e = two_sizes narrow wide e
size_of Ean13 narrow wide e = e * narrow
size_of Code128 narrow wide e = e * narrow
size_of Interleaved narrow wide e = two_sizes narrow wide e
size_of Codabar narrow wide e = two_sizes narrow wide e
size_of Code11 narrow wide e = two_sizes narrow wide e
size_of Msi narrow wide e = two_sizes narrow wide e
size_of Ean8 narrow wide e = e * narrow
size_of UpcA narrow wide e = e * narrow
size_of UpcE narrow wide e = e * narrow
size_of AddOn narrow wide e = e * narrow
size_of Code93 narrow wide e = e * narrow
size_of Code93Ascii narrow wide e = e * narrow

abbrev pub text_of_values : Symbology → List ℕ → List ℕ
text_of_values Code39 vs = characters vs
text_of_values Ean13 vs = characters vs
text_of_values Code128 vs = shown_by vs
text_of_values Interleaved vs = pairs_shown vs
text_of_values Codabar vs = signs_of codabar_signs vs
text_of_values Code11 vs = signs_of code11_signs vs
text_of_values Msi vs = signs_of digits vs
text_of_values Ean8 vs = digits_shown vs
text_of_values UpcA vs = digits_shown vs
text_of_values UpcE vs = digits_shown vs
text_of_values AddOn vs = digits_shown vs
text_of_values Code93 vs = code93_shown vs
text_of_values Code93Ascii vs = ascii_shown vs

-- the most values of a symbol
abbrev pub most_values : Symbology → ℕ
most_values Interleaved = 256
most_values _ = 258

-- the text of a symbol: data and checks, or what the data of Code 128 show
unfoldable pub text_of : Linear → List ℕ
text_of bars = text_of_values bars.symbology bars.values
