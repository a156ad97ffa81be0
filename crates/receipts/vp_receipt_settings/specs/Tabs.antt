-- The tab stops.
use Rattle.std.specs.Prelude.{ℕ, ◌+◌, ◌*◌, List, [], ◌∷◌, map, Option, Some, None, nat_lt, nat_le, if◌then◌else◌, find}
use Rattle.std.specs.List.{range_with_len}
use Rattle.vp_esc.specs.declared.item.EscItem.{EscItem}
use Rattle.vp_esc.specs.declared.item.EscItem.TheVariants.{TabStops, Initialize}
use Rattle.vp_glyph.specs.Cells.{cell_width}
use Rattle.vp_receipt_settings.specs.Texts.{font, text_in_force, style_of}

-- 32 stops, one every 96 dots
abbrev pub first_tab_stops : List ℕ
first_tab_stops = map (λ k. 96 * (k + 1)) (range_with_len 0 32)

-- ESC D: each stop stands behind its number of characters, as wide as they are then
abbrev pub tab_stops : List EscItem → List ℕ
tab_stops [] = first_tab_stops
tab_stops (TabStops stops end ∷ before) =
    map (λ n. n * cell_width (font before) (style_of (text_in_force before))) stops.items
tab_stops (Initialize ∷ before) = first_tab_stops
tab_stops (_ ∷ before) = tab_stops before

-- HT: `stop`, the first one past `position`, where a line of `length` dots reaches it, else `position`
abbrev pub at_stop : Option ℕ → ℕ → ℕ → ℕ
at_stop None position length = position
at_stop (Some stop) position length = if nat_le stop length then stop else position

abbrev pub tabbed : List ℕ → ℕ → ℕ → ℕ
tabbed stops position length = at_stop (find (λ stop. nat_lt position stop) stops) position length
