-- Where no format is open.
use Rattle.std.proofs.Common.{◌≡◌, Bool, true, false, List, [], ◌∷◌, refl}
use Rattle.vp_zpl.specs.Spelling.{Kept}
use Rattle.vp_zpl.specs.declared.name.Name.{Name}
use Rattle.vp_zpl.specs.declared.item.Command.{Command}
use Rattle.vp_zpl.specs.declared.item.Command.TheVariants.{FormatEnd}
use Rattle.vp_zpl.specs.Items.{Item}
use Rattle.vp_zpl.specs.Items.Item.{Given, Data}
use Rattle.vp_label_settings.specs.Formats.{is_open_by, is_open, stored}
use Rattle.vp_label_settings.specs.Settings.{quantity}
use Rattle.vp_label_settings.specs.Parts.{parts_of}

pub record IsIdle (before : List Item) : Type 0 where
  pub parts : parts_of before ≡ parts_of []
  pub stored : stored before ≡ []
  pub quantity : quantity before ≡ 1

-- a command that leaves no format open
behind : (opened : Bool) (c : Command) (name : Name) (sent : List Kept) (before : List Item) → is_open before ≡ opened → is_open_by c opened ≡ false →
    (is_open before ≡ false → IsIdle before) → IsIdle (Given c name sent ∷ before)
behind false c name sent before so shut idle_before =
    let h : IsIdle before = idle_before so in
    record { parts = rw so h.parts; stored = rw so h.stored; quantity = rw so h.quantity }
behind true FormatEnd name sent before so shut idle_before = record { parts = rw so refl; stored = rw so refl; quantity = rw so refl }
behind true _ name sent before so shut idle_before = cc

pub idle : (before : List Item) → is_open before ≡ false → IsIdle before
idle [] shut = record { parts = refl; stored = refl; quantity = refl }
idle (Data b ∷ before) shut = let h : IsIdle before = idle before shut in record { parts = h.parts; stored = rw shut h.stored; quantity = h.quantity }
idle (Given c name sent ∷ before) shut = behind (is_open before) c name sent before refl shut (λ so. idle before so)
