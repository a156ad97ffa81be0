-- How wide symbols can be, and how many bytes have one.
use Rattle.std.proofs.Common.{◌⊎◌, ◌≡◌, ℕ, ◌+◌, ◌*◌, ◌^◌, ◌<◌, ◌≤◌, true, eqb, leb, List, [], ◌∷◌, ◌++◌, length, take, map, reverse, Result, Err, refl, sym, ap, ◌∙◌, arith}
use Rattle.std.specs.List.{flat_map}
use Rattle.std.proofs.Math.Nat.{mul-le-mul_left}
use Rattle.std.proofs.lemmas.Bool.Decides.{nat_tests}
use Rattle.std.proofs.lemmas.Bool.{leb-true, eqb-true, lt-ltb}
use Rattle.std.proofs.lemmas.List.{length-append, length-take, length-drop, get_or-take}
use Rattle.vp_bars.specs.declared.symbology.Symbology.{Symbology}
use Rattle.vp_bars.specs.declared.symbology.Symbology.TheVariants.{Code39, Ean13, Code128, Interleaved, Codabar, Code11, Msi, Ean8, UpcA, UpcE, AddOn, Code93, Code93Ascii}
use Rattle.vp_dots.specs.declared.fault.Fault.{Fault}
use Rattle.vp_dots.specs.declared.fault.Fault.TheVariants.{Symbol, SymbolTooLong}
use Rattle.vp_dots.specs.declared.fault.Why.TheVariants.{Empty}
use Rattle.vp_bar_code.specs.declared.BarCode.{BarCode}
use Rattle.vp_bars.specs.Symbols.{Linear, within_length}
use Rattle.vp_bars.specs.Patterns.{code39_table, code128_table}
use Rattle.vp_bars.specs.Interleaved.{pairs_table}
use Rattle.vp_bars.specs.Codabar.{codabar_table}
use Rattle.vp_bars.specs.Code11.{code11_table}
use Rattle.vp_bars.specs.Msi.{msi_table}
use Rattle.vp_bars.specs.Code93.{code93_table}
use Rattle.vp_bars.specs.Upc.{guard_elements, upc_pattern}
use Rattle.vp_bars.specs.Elements.{set_a_widths, set_a_elements, set_b_elements, left_elements, ean13_elements}
use Rattle.vp_bars.specs.Symbologies.{symbol_of, size_of, pattern_of, start_of, stop_of}
use Rattle.vp_bars.specs.Widths.{sized, next_widths, widths_of, framed_widths, bar_widths, width_of, black_of, in_bar, total}
use Rattle.vp_bars.proofs.Draws.{total-append}
use Rattle.vp_bars.proofs.Tables.{each_row}
use Rattle.vp_bars.proofs.Lists.{list_all_get}
use Rattle.vp_bars.proofs.Modules.{ean13_width, ean13_bars}

-- elements by their modules and their number
abbrev mass : List ℕ → ℕ
mass es = total es + length es

mass-append : (us vs : List ℕ) → mass (us ++ vs) ≡ mass us + mass vs
mass-append us vs = omega (arith, total-append us vs, length-append us vs)

small : (es : List ℕ) → leb (total es + length es) 20 ≡ true → mass es ≤ 20
small es h = leb-true (total es + length es) 20 h

mass_set_a : (d : ℕ) → mass (set_a_elements d) ≤ 20
mass_set_a d = small _ (each_row (λ es. leb (total es + length es) 20) set_a_widths d refl refl)

mass_set_b : (d : ℕ) → mass (set_b_elements d) ≤ 20
mass_set_b d = small _ (each_row (λ es. leb (total (reverse es) + length (reverse es)) 20) set_a_widths d refl refl)

mass_guard : (v : ℕ) → mass (guard_elements v) ≤ 20
mass_guard v = grind (arith, nat_tests)

mass_upc : (v : ℕ) → mass (upc_pattern v) ≤ 20
mass_upc v = grind (arith, nat_tests, mass_set_a, mass_set_b, mass_guard)

mass_left : (sets ds : List ℕ) → mass (left_elements sets ds) ≤ 20 * length ds
mass_left [] ds = omega arith
mass_left (s ∷ sets) [] = omega arith
mass_left (s ∷ sets) (d ∷ ds) = grind (arith, mass-append, mass_set_a, mass_set_b, mass_left sets ds)

mass_right : (ds : List ℕ) → mass (flat_map set_a_elements ds) ≤ 20 * length ds
mass_right [] = omega arith
mass_right (d ∷ ds) = omega (arith, mass-append (set_a_elements d) (flat_map set_a_elements ds), mass_set_a d, mass_right ds)

mass_digits : (vs : List ℕ) → length vs ≤ 258 → mass (ean13_elements vs) ≤ 10400
mass_digits vs h1 = grind (arith, mass-append, mass_left, mass_right, length-take, length-drop)

module _ (n w : ℕ) (n_fits : n ≤ 65535) (w_fits : w ≤ 65535) where
  one : (s : Symbology) (e : ℕ) → size_of s n w e ≤ (e + 1) * 65535
  one s e = grind (arith, mul-le-mul_left)

  -- elements are no wider than so many modules
  weigh : (s : Symbology) (es : List ℕ) → total (sized s n w es) ≤ (total es + length es) * 65535
  weigh s [] = omega arith
  weigh s (e ∷ es) = omega (arith, one s e, weigh s es)

  light : (es : List ℕ) (s : Symbology) → leb (total es + length es) 20 ≡ true → total (sized s n w es) ≤ 20 * 65535
  light es s h = omega (arith, weigh s es, leb-true (total es + length es) 20 h)

  light_upc : (s : Symbology) (v : ℕ) → total (sized s n w (upc_pattern v)) ≤ 20 * 65535
  light_upc s v = omega (arith, weigh s (upc_pattern v), mass_upc v)

  pattern_light : (s : Symbology) (v : ℕ) → total (sized s n w (pattern_of s v)) ≤ 20 * 65535
  pattern_light Code39 v = light _ Code39 (each_row (λ es. leb (total es + length es) 20) code39_table v refl refl)
  pattern_light Ean13 v = light _ Ean13 (each_row (λ es. leb (total es + length es) 20) set_a_widths v refl refl)
  pattern_light Code128 v = light _ Code128 (each_row (λ es. leb (total es + length es) 20) code128_table v refl refl)
  pattern_light Interleaved v = light _ Interleaved (each_row (λ es. leb (total es + length es) 20) pairs_table v refl refl)
  pattern_light Codabar v = light _ Codabar (each_row (λ es. leb (total es + length es) 20) codabar_table v refl refl)
  pattern_light Code11 v = light _ Code11 (each_row (λ es. leb (total es + length es) 20) code11_table v refl refl)
  pattern_light Ean8 v = light_upc Ean8 v
  pattern_light UpcA v = light_upc UpcA v
  pattern_light UpcE v = light_upc UpcE v
  pattern_light AddOn v = light_upc AddOn v
  pattern_light Code93 v = light _ Code93 (each_row (λ es. leb (total es + length es) 20) code93_table v refl refl)
  pattern_light Code93Ascii v = light _ Code93Ascii (each_row (λ es. leb (total es + length es) 20) code93_table v refl refl)
  pattern_light Msi v = light _ Msi (each_row (λ es. leb (total es + length es) 20) msi_table v refl refl)

  start_light : (s : Symbology) → total (sized s n w (start_of s)) ≤ 20 * 65535
  start_light s = grind (arith, light)

  stop_light : (s : Symbology) → total (sized s n w (stop_of s)) ≤ 20 * 65535
  stop_light s = grind (arith, light)

  next_light : (s : Symbology) (v : ℕ) → total (next_widths s n w v) ≤ 21 * 65535
  next_light s v = grind (arith, total-append, pattern_light)

  flat_light : (g : ℕ → List ℕ) → ((v : ℕ) → total (g v) ≤ 21 * 65535) → (vs : List ℕ) → total (flat_map g vs) ≤ length vs * (21 * 65535)
  flat_light g h [] = omega arith
  flat_light g h (v ∷ vs) = omega (arith, total-append (g v) (flat_map g vs), h v, flat_light g h vs)

  characters_light : (s : Symbology) (vs : List ℕ) → total (widths_of s n w vs) ≤ length vs * (21 * 65535)
  characters_light s vs = grind (arith, total-append, pattern_light, flat_light, next_light)

  framed_light : (s : Symbology) (vs : List ℕ) → total (framed_widths s n w vs) ≤ length vs * (21 * 65535) + 40 * 65535
  framed_light s vs = omega (
    arith,
    start_light s,
    stop_light s,
    flat_light (next_widths s n w) (next_light s) vs,
    total-append (sized s n w (start_of s)) (flat_map (next_widths s n w) vs ++ sized s n w (stop_of s)),
    total-append (flat_map (next_widths s n w) vs) (sized s n w (stop_of s)),
  )

  digits_light : (vs : List ℕ) → length vs ≤ 258 → total (sized Ean13 n w (ean13_elements vs)) < 2 ^ 30
  digits_light vs h = omega (arith, weigh Ean13 (ean13_elements vs), mass_digits vs h)

pub narrow_bars : (s : Symbology) (n w : ℕ) (vs : List ℕ) → n < 65536 → w < 65536 → length vs ≤ 258 → total (bar_widths s n w vs) < 2 ^ 30
narrow_bars Code39 n w vs h k l = omega (arith, characters_light n w (omega arith) (omega arith) Code39 vs)
narrow_bars Ean13 n w vs h k l = digits_light n w (omega arith) (omega arith) vs l
narrow_bars Code128 n w vs h k l = omega (arith, characters_light n w (omega arith) (omega arith) Code128 vs)
narrow_bars Interleaved n w vs h k l = omega (arith, framed_light n w (omega arith) (omega arith) Interleaved vs)
narrow_bars Codabar n w vs h k l = omega (arith, characters_light n w (omega arith) (omega arith) Codabar vs)
narrow_bars Code11 n w vs h k l = omega (arith, framed_light n w (omega arith) (omega arith) Code11 vs)
narrow_bars Ean8 n w vs h k l = omega (arith, framed_light n w (omega arith) (omega arith) Ean8 vs)
narrow_bars UpcA n w vs h k l = omega (arith, framed_light n w (omega arith) (omega arith) UpcA vs)
narrow_bars UpcE n w vs h k l = omega (arith, framed_light n w (omega arith) (omega arith) UpcE vs)
narrow_bars AddOn n w vs h k l = omega (arith, framed_light n w (omega arith) (omega arith) AddOn vs)
narrow_bars Code93 n w vs h k l = omega (arith, framed_light n w (omega arith) (omega arith) Code93 vs)
narrow_bars Code93Ascii n w vs h k l = omega (arith, framed_light n w (omega arith) (omega arith) Code93Ascii vs)
narrow_bars Msi n w vs h k l = omega (arith, framed_light n w (omega arith) (omega arith) Msi vs)

-- the modules of a character of Code 128 other than the stop
eleven : (v : ℕ) → v < 106 → total (pattern_of Code128 v) ≡ 11
eleven v h =
    ap total (sym (get_or-take 106 code128_table v [] h))
    ∙ eqb-true _ _ (list_all_get (λ es. eqb (total es) 11) (take 106 code128_table) v [] h refl)

pub by_modules : (n : ℕ) (es : List ℕ) → total (map (λ e. e * n) es) ≡ total es * n
by_modules n [] = omega arith
by_modules n (e ∷ es) = omega (arith, by_modules n es)

pub eleven_modules : (n w v : ℕ) → v < 106 → total (sized Code128 n w (pattern_of Code128 v)) ≡ 11 * n
eleven_modules n w v h = by_modules n (pattern_of Code128 v) ∙ ap (λ k. k * n) (eleven v h)

pub width_is : (s : Symbology) (n w : ℕ) (vs : List ℕ) → width_of s n w vs ≡ total (bar_widths s n w vs)
width_is s n w vs = grind (arith, ean13_width)

pub black_is : (s : Symbology) (n w : ℕ) (vs : List ℕ) (x : ℕ) → black_of s n w vs x ≡ in_bar true (bar_widths s n w vs) x
black_is s n w vs x = grind (arith, ean13_bars)

-- the bars of the symbologies of characters
pub characters_are : (s : Symbology) (n w : ℕ) (vs : List ℕ) → (s ≡ Code39) ⊎ (s ≡ Code128) ⊎ (s ≡ Codabar) → bar_widths s n w vs ≡ widths_of s n w vs
characters_are s n w vs h1 = grind arith

none-within : (symbol : Result Linear Fault) (bytes : List ℕ) → length bytes ≡ 0 → within_length bytes symbol ≡ Err (Symbol Empty)
none-within symbol bytes h1 = grind arith

many-within : (symbol : Result Linear Fault) (bytes : List ℕ) → 255 < length bytes → within_length bytes symbol ≡ Err SymbolTooLong
many-within symbol bytes h1 = grind (arith, lt-ltb)

pub none_drawn : (code : BarCode) (bytes : List ℕ) → length bytes ≡ 0 → symbol_of code bytes ≡ Err (Symbol Empty)
none_drawn code bytes h1 = grind (arith, none-within)

pub many_drawn : (code : BarCode) (bytes : List ℕ) → 255 < length bytes → symbol_of code bytes ≡ Err SymbolTooLong
many_drawn code bytes h1 = grind (arith, many-within)
