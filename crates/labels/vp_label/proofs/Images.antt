-- What is printed is the text of images.
use Rattle.std.proofs.Common.{◌≡◌, ◌∙◌, ℕ, zero, suc, Bool, List, [], ◌∷◌, ◌++◌, refl, ap, sym, append_assoc, arith}
use Rattle.std.specs.Prelude.{flat_map, replicate}
use Rattle.std.proofs.lemmas.Grind.{flat_map-append}
use Rattle.std.proofs.lemmas.List.{append-nil}
use Rattle.vp_dots.specs.Images.{Image, pbm}
use Rattle.vp_glyph.specs.Sheets.{Sheets}
use Rattle.vp_zpl.specs.Spelling.{Kept}
use Rattle.vp_zpl.specs.declared.name.Name.{Name}
use Rattle.vp_zpl.specs.declared.item.Command.{Command}
use Rattle.vp_zpl.specs.Items.{Item}
use Rattle.vp_zpl.specs.Items.Item.{Given, Data}
use Rattle.vp_label_settings.specs.Formats.{is_open, followed_by}
use Rattle.vp_label_settings.specs.Laws.{AreInRange}
use Rattle.vp_label_settings.specs.Settings.{settings_of}
use Rattle.vp_copies.specs.Copies.{copies_text}
use Rattle.vp_label.specs.Images.{AreOfLabels, IsOfLabel, completed, completed_by, images}
use Rattle.vp_label.specs.Prints.{all_print, printed, prints, prints_by}

copies_are : (i : Image) (n : ℕ) → copies_text i n ≡ flat_map pbm (replicate n i)
copies_are i zero = refl
copies_are i (suc n) = ap (λ t. pbm i ++ t) (copies_are i n)

command_is : (sheets : Sheets) (before : List Item) (command : Command) → prints_by sheets before command ≡ flat_map pbm (completed_by sheets before command)
command_is sheets before c = grind (arith, copies_are)

given_is : (opened : Bool) (sheets : Sheets) (before : List Item) (command : Command) (name : Name) (sent : List Kept) → is_open before ≡ opened →
    prints sheets before (Given command name sent) ≡ flat_map pbm (completed sheets before (Given command name sent))
given_is opened sheets before c name sent so = grind (arith, command_is)

item_is : (sheets : Sheets) (before : List Item) (item : Item) → prints sheets before item ≡ flat_map pbm (completed sheets before item)
item_is sheets before (Given command name sent) = given_is (is_open before) sheets before command name sent refl
item_is sheets before (Data byte) = refl

pub all_are : (sheets : Sheets) (before : List Item) → printed sheets before ≡ flat_map pbm (images sheets before)
all_are sheets [] = refl
all_are sheets (item ∷ before) = grind (arith, item_is, flat_map-append, all_are sheets before)

-- what more items print comes behind
pub more_printed : (sheets : Sheets) (before items : List Item) → printed sheets (followed_by before items) ≡ printed sheets before ++ all_print sheets before items
more_printed sheets before [] = sym (append-nil (printed sheets before))
more_printed sheets before (item ∷ items) = more_printed sheets (item ∷ before) items ∙ append_assoc (printed sheets before) (prints sheets before item) (all_print sheets (item ∷ before) items)

both : (xs ys : List Image) → AreOfLabels xs → AreOfLabels ys → AreOfLabels (xs ++ ys)
both [] ys p q = q
both (x ∷ xs) ys p q = (p.0, both xs ys p.1 q)

each : (n : ℕ) (i : Image) → IsOfLabel i → AreOfLabels (replicate n i)
each zero i p = tt
each (suc n) i p = (p, each n i p)

module _ (law : (before : List Item) → AreInRange (settings_of before)) (sheets : Sheets) where
  of_command : (before : List Item) (command : Command) → AreOfLabels (completed_by sheets before command)
  of_command before c = grind (arith, each)

  of_item : (before : List Item) (item : Item) → AreOfLabels (completed sheets before item)
  of_item before (Given c name sent) = grind (arith, of_command)
  of_item before (Data byte) = tt

  pub all_of : (before : List Item) → AreOfLabels (images sheets before)
  all_of [] = tt
  all_of (item ∷ before) = both (images sheets before) (completed sheets before item) (all_of before) (of_item before item)
