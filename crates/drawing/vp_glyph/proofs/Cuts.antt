-- The rows of cells as words.
use Rattle.std.proofs.Common.{◌≡◌, ℕ, ◌+◌, ◌-◌, ◌*◌, ◌/◌, ◌%◌, ◌<◌, ◌≤◌, Bool, true, false, ltb, leb, ◌&&◌, refl, sym, ap, ◌∙◌, arith, List, get_or, take, drop, inl, inr}
use Rattle.std.proofs.lemmas.Nat.{div-mul-add, mul-add-lt}
use Rattle.std.proofs.Math.Nat.{mul-add-mod_self_right, mod-eq_of_lt}
use Rattle.std.proofs.lemmas.List.{get_or-take, get_or-drop, get_or_past, length-take}
use Rattle.std.proofs.lemmas.Bool.{cases_lt, le-ltb}
use Rattle.vp_dots.specs.Dots.{dot}
use Rattle.vp_dots.specs.Words.{word_dot, IsReady}
use Rattle.vp_glyph.specs.Sheets.{Glyphs, IsCut, raster_dot, glyph_dot}
use Rattle.vp_glyph.specs.Inked.{IsInked}
use Rattle.vp_glyph.specs.declared.sheet.Inked.{Inked}
use Rattle.vp_glyph.proofs.Looks.{white_dot}

-- a row of a cell, cut out of the raster's rows
pub row_in_cell : (sheet : Glyphs) (c x y from word keep cut : ℕ) → sheet.wide ≤ 64 → y < sheet.high → from ≡ 16 * sheet.wide * (sheet.high * (c / 16) + y) + sheet.wide * (c % 16)
    → (x < 64 → word_dot word x ≡ dot sheet.raster (from + x)) → word_dot keep x ≡ ltb x sheet.wide → word_dot cut x ≡ (word_dot word x && word_dot keep x) → word_dot cut x ≡ glyph_dot sheet c x y
unfolding glyph_dot
row_in_cell sheet c x y from word keep cut w l f a k e = grind arith

-- the rows of one cell
pub rows_are : (sheet : Glyphs) (rows : List ℕ) (c x y first n : ℕ) → IsCut sheet rows → c < 256 → first ≡ sheet.high * c → n ≡ sheet.high → word_dot (get_or (take n (drop first rows)) y 0) x ≡ glyph_dot sheet c x y
unfolding glyph_dot
rows_are sheet rows c x y first n cut l f m = elim (cases_lt y sheet.high) [
  | inl h ↦
      let place : first + y ≡ c * sheet.high + y = omega (arith, f) in
      let low : c * sheet.high + y < 256 * sheet.high = omega (arith, mul-add-lt c sheet.high y 256 l h) in
      let across : (c * sheet.high + y) / sheet.high ≡ c = div-mul-add c sheet.high y h in
      let down : (c * sheet.high + y) % sheet.high ≡ y = mul-add-mod_self_right c sheet.high y ∙ mod-eq_of_lt h in
      ap (λ w. word_dot w x) (get_or-take n (drop first rows) y 0 (omega (arith, m)) ∙ get_or-drop first rows y 0 ∙ ap (λ i. get_or rows i 0) place)
      ∙ cut.dots_are (c * sheet.high + y) x low ∙ ap (λ i. glyph_dot sheet i x ((c * sheet.high + y) % sheet.high)) across ∙ ap (glyph_dot sheet c x) down
  | inr g ↦ ap (λ w. word_dot w x) (get_or_past (take n (drop first rows)) y 0 (omega (arith, m, length-take n (drop first rows)))) ∙ white_dot x
      ∙ rw (le-ltb y sheet.high g) (sym (nowhere (ltb x sheet.wide) (raster_dot sheet (sheet.wide * (c % 16) + x) (sheet.high * (c / 16) + y))))
]
  where
    nowhere : (a b : Bool) → (a && false && b) ≡ false
    nowhere true b = refl
    nowhere false b = refl

-- the rows of a cell from the first on that has ink to the last
pub inked_dot : (rows : List ℕ) (inked : Inked) (x y : ℕ) → IsInked rows inked
    → (leb inked.first y && word_dot (get_or (take (inked.below - inked.first) (drop inked.first rows)) (y - inked.first) 0) x) ≡ word_dot (get_or rows y 0) x
inked_dot rows inked x y is = grind (arith, white_dot, get_or-take, get_or-drop, get_or_past, length-take)

-- no dot stands outside a cell
pub glyph_inside : (sheet : Glyphs) (c x y : ℕ) → glyph_dot sheet c x y ≡ true → (x < sheet.wide) × (y < sheet.high)
unfolding glyph_dot
glyph_inside sheet c x y e = grind arith

-- what stands ready of a cell
pub ready_of : (sheet : Glyphs) (rows : List ℕ) (c w h first n : ℕ) (inked : Inked) → IsCut sheet rows → c < 256 → first ≡ sheet.high * c → n ≡ sheet.high → sheet.wide ≤ w → sheet.high ≤ h
    → IsInked (take n (drop first rows)) inked
    → IsReady h inked.first (take (inked.below - inked.first) (drop inked.first (take n (drop first rows)))) (glyph_dot sheet c) × ((x y : ℕ) → glyph_dot sheet c x y ≡ true → (x < w) × (y < h))
ready_of sheet rows c w h first n inked cut l f m wide high is = grind (arith, length-take, inked_dot, rows_are, glyph_inside)
