-- Data change nothing of what is in force.
use Rattle.std.proofs.Common.{◌≡◌, ℕ, List, [], ◌∷◌, refl, arith}
use Rattle.vp_zpl.specs.Items.Item.{Data}
use Rattle.vp_zpl.specs.Items.{Item, data_items}
use Rattle.vp_label_settings.specs.declared.in_force.InForce.{InForce}
use Rattle.vp_label_settings.specs.Formats.{is_open, followed_by}
use Rattle.vp_label_settings.specs.Settings.{settings_of}
use Rattle.vp_label_settings.specs.Parts.{parts_of}
use Rattle.vp_label_settings.specs.Standing.{StandsAfter}

open-kept : (before : List Item) (bytes : List ℕ) → is_open (followed_by before (data_items bytes)) ≡ is_open before
open-kept before [] = refl
open-kept before (b ∷ bytes) = open-kept (Data b ∷ before) bytes

settings-kept : (before : List Item) (bytes : List ℕ) → settings_of (followed_by before (data_items bytes)) ≡ settings_of before
settings-kept before [] = refl
settings-kept before (b ∷ bytes) = settings-kept (Data b ∷ before) bytes

parts-kept : (before : List Item) (bytes : List ℕ) → parts_of (followed_by before (data_items bytes)) ≡ parts_of before
parts-kept before [] = refl
parts-kept before (b ∷ bytes) = parts-kept (Data b ∷ before) bytes

pub stands_still : (s : InForce) (before : List Item) (bytes : List ℕ) → StandsAfter s before → StandsAfter s (followed_by before (data_items bytes))
stands_still s before bytes stands = grind (arith, open-kept, settings-kept, parts-kept)
