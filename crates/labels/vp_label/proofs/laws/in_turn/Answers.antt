use Rattle.std.proofs.Common.{arith}
use Rattle.vp_zpl.specs.Items.{items}
use Rattle.std.proofs.Common.{◌≡◌, ◌++◌, ◌∷◌, [], List, refl, reverse, append_assoc}
use Rattle.std.proofs.lemmas.List.{reverse-append}
use Rattle.vp_zpl.specs.Items.{Item}
use Rattle.vp_label_settings.specs.Formats.{followed_by}
use Rattle.vp_label.proofs.Images.{more_printed}
use Rattle.vp_label.proofs.laws.in_turn.Goals as goal

in_order : (before items : List Item) → followed_by before items ≡ reverse items ++ before
in_order before [] = refl
in_order before (item ∷ items) = grind (arith, reverse-append (item ∷ []) items, append_assoc (reverse items) (item ∷ []) before, in_order (item ∷ before) items)

pub returns-clause-order : goal.returns-clause-order
returns-clause-order c = in_order

pub returns-clause-printed : goal.returns-clause-printed
returns-clause-printed c = more_printed
