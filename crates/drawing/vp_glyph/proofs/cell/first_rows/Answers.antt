use Rattle.std.proofs.Common.{◌≡◌, ℕ, ◌<◌, ◌++◌, List, arith, drop, get_or, length, length-take, min, take}
use Rattle.std.proofs.lemmas.List.{get_or-append_right, get_or-drop, get_or-take, get_or_append_left, get_or_past}
use Rattle.vp_glyph.proofs.Overlaid.{zero_at}
use Rattle.vp_glyph.proofs.cell.first_rows.Goals as goal

white_below : (rows first white : List ℕ) (n y : ℕ) → n ≡ min (length rows) 24 → first ≡ take n rows → ((i : ℕ) → get_or white i 0 ≡ 0) → y < 24 → get_or (first ++ drop n white) y 0 ≡ get_or rows y 0
white_below rows first white n y e s w l = grind (arith, get_or_append_left, get_or-append_right, get_or-drop, get_or-take, get_or_past, length-take, w)

pub returns : goal.returns
returns c = λ y l. white_below c.args.rows.now _ _ _ y c.min-n.ensures c.copy_from_slice.ensures.after (zero_at 24) l
