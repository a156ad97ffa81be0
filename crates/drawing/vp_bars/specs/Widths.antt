-- The bars and spaces of a symbol, in dots.
use Rattle.std.specs.Prelude.{ℕ, ◌+◌, ◌-◌, ◌*◌, ◌==◌, Bool, true, false, not, List, [], ◌∷◌, ◌++◌, map, length, take, drop, nat_lt, if◌then◌else◌}
use Rattle.std.specs.List.{flat_map}
use Rattle.vp_bars.specs.declared.symbology.Symbology.{Symbology}
use Rattle.vp_bars.specs.declared.symbology.Symbology.TheVariants.{Code39, Ean13, Code128, Interleaved, Codabar, Code11, Msi, Ean8, UpcA, UpcE, AddOn, Code93, Code93Ascii}
use Rattle.vp_bars.specs.Symbols.{Linear}
use Rattle.vp_bars.specs.Elements.{ean13_elements}
use Rattle.vp_bars.specs.Patterns.{set_a, set_b, set_c, parity}
use Rattle.vp_bars.specs.Symbologies.{size_of, pattern_of, gap_of, start_of, stop_of}

abbrev pub sized : Symbology → ℕ → ℕ → List ℕ → List ℕ
sized symbology narrow wide es = map (size_of symbology narrow wide) es

-- the widths of a character behind another
abbrev pub next_widths : Symbology → ℕ → ℕ → ℕ → List ℕ
next_widths symbology narrow wide v = sized symbology narrow wide (gap_of symbology)
    ++ sized symbology narrow wide (pattern_of symbology v)

-- the widths of the bars and spaces of characters in a row, a bar first: where start and stop are of them
abbrev pub widths_of : Symbology → ℕ → ℕ → List ℕ → List ℕ
widths_of symbology narrow wide [] = []
widths_of symbology narrow wide (v ∷ vs) = sized symbology narrow wide (pattern_of symbology v)
    ++ flat_map (next_widths symbology narrow wide) vs

-- the widths of the bars and spaces of characters between a start and a stop, a bar first
abbrev pub framed_widths : Symbology → ℕ → ℕ → List ℕ → List ℕ
framed_widths symbology narrow wide vs = sized symbology narrow wide (start_of symbology)
    ++ (flat_map (next_widths symbology narrow wide) vs ++ sized symbology narrow wide (stop_of symbology))

-- the modules of the left digits, each in its set
abbrev pub left_modules : List ℕ → List ℕ → List ℕ
left_modules (set ∷ sets) (d ∷ ds) = (if set == 0 then set_a d else set_b d) ++ left_modules sets ds
left_modules _ _ = []

abbrev pub guard : List ℕ
guard = 1 ∷ 0 ∷ 1 ∷ []

abbrev pub centre : List ℕ
centre = 0 ∷ 1 ∷ 0 ∷ 1 ∷ 0 ∷ []

-- EAN-13: the first digit chooses the sets of the next six, and the last six are of set C
abbrev pub ean13_modules : List ℕ → List ℕ
ean13_modules [] = []
ean13_modules (first ∷ ds) = guard ++ (left_modules (parity first) (take 6 ds)
    ++ (centre ++ (flat_map set_c (drop 6 ds) ++ guard)))

-- whether place x lies in a bar, where bars and spaces have these widths in turn: from a bar on, in those
-- with an odd number
abbrev pub in_bar : Bool → List ℕ → ℕ → Bool
in_bar bar [] x = false
in_bar bar (w ∷ ws) x = if nat_lt x w then bar else in_bar (not bar) ws (x - w)

-- whether place x lies in a black module
abbrev pub in_module : ℕ → List ℕ → ℕ → Bool
in_module module_width [] x = false
in_module module_width (m ∷ ms) x = if nat_lt x module_width then m == 1
    else in_module module_width ms (x - module_width)

-- the widths of the bars and spaces of any symbol, a bar first
abbrev pub bar_widths : Symbology → ℕ → ℕ → List ℕ → List ℕ
bar_widths Code39 narrow wide vs = widths_of Code39 narrow wide vs
bar_widths Ean13 narrow wide vs = sized Ean13 narrow wide (ean13_elements vs)
bar_widths Code128 narrow wide vs = widths_of Code128 narrow wide vs
bar_widths Interleaved narrow wide vs = framed_widths Interleaved narrow wide vs
bar_widths Codabar narrow wide vs = widths_of Codabar narrow wide vs
bar_widths Code11 narrow wide vs = framed_widths Code11 narrow wide vs
bar_widths Msi narrow wide vs = framed_widths Msi narrow wide vs
bar_widths Ean8 narrow wide vs = framed_widths Ean8 narrow wide vs
bar_widths UpcA narrow wide vs = framed_widths UpcA narrow wide vs
bar_widths UpcE narrow wide vs = framed_widths UpcE narrow wide vs
bar_widths AddOn narrow wide vs = framed_widths AddOn narrow wide vs
bar_widths Code93 narrow wide vs = framed_widths Code93 narrow wide vs
bar_widths Code93Ascii narrow wide vs = framed_widths Code93Ascii narrow wide vs

-- widths together
abbrev pub total : List ℕ → ℕ
total [] = 0
total (w ∷ ws) = w + total ws

-- how wide the bars of a symbol are
abbrev pub width_of : Symbology → ℕ → ℕ → List ℕ → ℕ
width_of Code39 narrow wide vs = total (widths_of Code39 narrow wide vs)
width_of Ean13 narrow wide vs = length (ean13_modules vs) * narrow
width_of Code128 narrow wide vs = total (widths_of Code128 narrow wide vs)
width_of Interleaved narrow wide vs = total (framed_widths Interleaved narrow wide vs)
width_of Codabar narrow wide vs = total (widths_of Codabar narrow wide vs)
width_of Code11 narrow wide vs = total (framed_widths Code11 narrow wide vs)
width_of Msi narrow wide vs = total (framed_widths Msi narrow wide vs)
width_of Ean8 narrow wide vs = total (framed_widths Ean8 narrow wide vs)
width_of UpcA narrow wide vs = total (framed_widths UpcA narrow wide vs)
width_of UpcE narrow wide vs = total (framed_widths UpcE narrow wide vs)
width_of AddOn narrow wide vs = total (framed_widths AddOn narrow wide vs)
width_of Code93 narrow wide vs = total (framed_widths Code93 narrow wide vs)
width_of Code93Ascii narrow wide vs = total (framed_widths Code93Ascii narrow wide vs)

-- whether place x of a symbol is black
abbrev pub black_of : Symbology → ℕ → ℕ → List ℕ → ℕ → Bool
black_of Code39 narrow wide vs x = in_bar true (widths_of Code39 narrow wide vs) x
black_of Ean13 narrow wide vs x = in_module narrow (ean13_modules vs) x
black_of Code128 narrow wide vs x = in_bar true (widths_of Code128 narrow wide vs) x
black_of Interleaved narrow wide vs x = in_bar true (framed_widths Interleaved narrow wide vs) x
black_of Codabar narrow wide vs x = in_bar true (widths_of Codabar narrow wide vs) x
black_of Code11 narrow wide vs x = in_bar true (framed_widths Code11 narrow wide vs) x
black_of Msi narrow wide vs x = in_bar true (framed_widths Msi narrow wide vs) x
black_of Ean8 narrow wide vs x = in_bar true (framed_widths Ean8 narrow wide vs) x
black_of UpcA narrow wide vs x = in_bar true (framed_widths UpcA narrow wide vs) x
black_of UpcE narrow wide vs x = in_bar true (framed_widths UpcE narrow wide vs) x
black_of AddOn narrow wide vs x = in_bar true (framed_widths AddOn narrow wide vs) x
black_of Code93 narrow wide vs x = in_bar true (framed_widths Code93 narrow wide vs) x
black_of Code93Ascii narrow wide vs x = in_bar true (framed_widths Code93Ascii narrow wide vs) x

abbrev pub bars_width : Linear → ℕ → ℕ → ℕ
bars_width bars narrow wide = width_of bars.symbology narrow wide bars.values

unfoldable pub is_black : Linear → ℕ → ℕ → ℕ → Bool
is_black bars narrow wide x = black_of bars.symbology narrow wide bars.values x
