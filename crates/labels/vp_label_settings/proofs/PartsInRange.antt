-- The parts of a field are in their ranges.
use Rattle.std.proofs.Common.{◌≡◌, ◌≤◌, ◌/◌, ℕ, true, Option, Some, None, List, [], ◌∷◌, arith}
use Rattle.std.proofs.lemmas.Nat.{le-div}
use Rattle.vp_zpl.specs.Items.{Item}
use Rattle.vp_label_settings.specs.declared.parts.OpenContent.{OpenContent}
use Rattle.vp_label_settings.specs.declared.parts.OpenContent.TheVariants as opened
use Rattle.vp_label_settings.specs.Graphics.{has_rows}
use Rattle.vp_label_settings.specs.Parts.{symbol, block, content}
use Rattle.vp_label_settings.specs.Laws.{IsSymbolIf, IsFieldBlockIf, IsFrame, IsRing, IsDiagonal, IsPictureHead}

pub symbol-fits : (before : List Item) → IsSymbolIf (symbol before)
symbol-fits [] = tt
symbol-fits (item ∷ before) = grind (arith, symbol-fits before)

pub block-fits : (before : List Item) → IsFieldBlockIf (block before)
block-fits [] = tt
block-fits (item ∷ before) = grind (arith, block-fits before)

abbrev pub IsContentIf : Option OpenContent → Type 0
IsContentIf None = Unit {0}
IsContentIf (Some (opened.Data start)) = Unit {0}
IsContentIf (Some (opened.Frame b colour)) = IsFrame b
IsContentIf (Some (opened.Ring r colour)) = IsRing r
IsContentIf (Some (opened.Diagonal d colour)) = IsDiagonal d
IsContentIf (Some (opened.Picture head start)) = IsPictureHead head

rows-fit : (bytes row : ℕ) → has_rows bytes row ≡ true → 1 ≤ bytes / row
rows-fit bytes row so = le-div 1 bytes row (grind (arith, so)) (grind (arith, so))

pub content-fits : (before : List Item) → IsContentIf (content before)
content-fits [] = tt
content-fits (item ∷ before) = grind (arith, content-fits before, rows-fit)
