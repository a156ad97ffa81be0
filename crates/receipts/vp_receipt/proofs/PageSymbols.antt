-- What an item with a symbol lays on the page, and what lays nothing but the line.
use Rattle.std.proofs.Common.{◌≡◌, ℕ, arith, sym, subst, List, [], ◌∷◌, Some, None}
use Rattle.vp_esc.specs.declared.item.EscItem.{EscItem}
use Rattle.vp_strips.specs.declared.symbol.Symbol.{Symbol}
use Rattle.vp_receipt_settings.specs.Setup.{Setup}
use Rattle.vp_glyph.specs.Sheets.{Sheets}
use Rattle.vp_receipt_settings.specs.declared.settings.Settings.{Settings}
use Rattle.vp_receipt_settings.specs.Line.{Placed, line}
use Rattle.vp_receipt.specs.Standing.{Gathers}
use Rattle.vp_receipt_settings.specs.Symbols.{symbol_image}
use Rattle.vp_strips.specs.SymbolInks.{IsSymbolOf}

-- it ends the line
pub line_ended : (setup : Setup) (before : List EscItem) (item : EscItem) (symbol : Symbol) → IsSymbolOf setup.sheets (Some symbol) (symbol_image setup before item) → line setup (item ∷ before) ≡ []
line_ended setup before item symbol h = grind arith

pub gathers_none : (sheets : Sheets) (s : Settings) (bitmap : List (List ℕ)) (placed : List Placed) → placed ≡ [] → Gathers sheets s bitmap None placed
gathers_none sheets s bitmap placed e = subst (λ (l : List Placed). Gathers sheets s bitmap None l) (sym e) (λ o. cc)
