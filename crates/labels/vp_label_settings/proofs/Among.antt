-- Where a field stands, and that its content begins among the stored bytes.
use Rattle.std.proofs.Common.{◌≤◌, ℕ, Option, Some, None, List, [], ◌∷◌, length, length-append, arith}
use Rattle.vp_zpl.specs.Items.{Item}
use Rattle.vp_label_settings.specs.declared.parts.OpenContent.{OpenContent}
use Rattle.vp_label_settings.specs.declared.parts.OpenContent.TheVariants as opened
use Rattle.vp_label_settings.specs.Formats.{stored}
use Rattle.vp_label_settings.specs.Parts.{origin, content, parts_of}
use Rattle.vp_label_settings.specs.Laws.{AreParts, IsOrigin}
use Rattle.vp_label_settings.proofs.PartsInRange.{block-fits, content-fits, symbol-fits}

origin-fits : (before : List Item) → IsOrigin (origin before)
origin-fits [] = (omega arith, omega arith)
origin-fits (item ∷ before) = grind (arith, origin-fits before)

-- a content begins behind no more bytes than are stored
abbrev pub BeginsBy : ℕ → Option OpenContent → Type 0
BeginsBy end None = Unit {0}
BeginsBy end (Some (opened.Data start)) = start ≤ end
BeginsBy end (Some (opened.Frame b colour)) = Unit {0}
BeginsBy end (Some (opened.Ring r colour)) = Unit {0}
BeginsBy end (Some (opened.Diagonal d colour)) = Unit {0}
BeginsBy end (Some (opened.Picture head start)) = start ≤ end

begins-by : (before : List Item) → BeginsBy (length (stored before)) (content before)
begins-by [] = tt
begins-by (item ∷ before) = grind (arith, begins-by before, length-append)

pub parts-fit : (before : List Item) → AreParts (length (stored before)) (parts_of before)
parts-fit before = grind (arith, origin-fits, symbol-fits, block-fits, content-fits, begins-by)
