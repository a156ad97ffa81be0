-- Nothing is pending.
use Rattle.std.proofs.Common.{◌≡◌, ◌<◌, ℕ, List, [], length, arith, refl, ◌↔◌}
use Rattle.vp_dots.specs.Images.{Image}
use Rattle.vp_copies.specs.Copies.{pending, Place}
use Rattle.vp_copies.specs.Progress.{IsPlaceOf}
use Rattle.std.proofs.Common.{◌∷◌}
use Rattle.std.proofs.lemmas.List.{append-nil}
use Rattle.vp_glyph.specs.Sheets.{Sheets}
use Rattle.vp_zpl.specs.Items.{Item, data_items}
use Rattle.vp_zpl.specs.Items.Item.{Data}
use Rattle.vp_label.specs.Prints.{all_print, prints}
use Rattle.vp_label.specs.Refusals.{first_refusal, refusal}

abbrev pub PendingLaw : Type 0
PendingLaw = (i : Image) (p : Place) → 0 < i.height → IsPlaceOf i.width i.height p → (0 < p.copies) ↔ (0 < length (pending i p))

pub nothing_left : (i : Image) (p : Place) → p.copies ≡ 0 → pending i p ≡ []
nothing_left i p e = grind arith

-- nothing is pending where no copies are
pub no_copies : PendingLaw → (i : Image) (p : Place) → (0 < p.copies → (0 < i.height) × IsPlaceOf i.width i.height p) → pending i p ≡ [] → p.copies ≡ 0
no_copies law i p is none = grind arith

-- one item
pub one_refusal : (sheets : Sheets) (before : List Item) (item : Item) → first_refusal sheets before (item ∷ []) ≡ refusal sheets before item
one_refusal sheets before item = grind arith

pub one_prints : (sheets : Sheets) (before : List Item) (item : Item) → all_print sheets before (item ∷ []) ≡ prints sheets before item
one_prints sheets before item = append-nil (prints sheets before item)

-- data print nothing
pub data_print : (sheets : Sheets) (before : List Item) (bytes : List ℕ) → all_print sheets before (data_items bytes) ≡ []
data_print sheets before [] = refl
data_print sheets before (b ∷ bytes) = data_print sheets (Data b ∷ before) bytes
