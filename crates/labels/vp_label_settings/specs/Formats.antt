-- Formats, by looking back over the items, of which the newest comes first (ZPL II, ^XA and ^XZ).
use Rattle.std.specs.Prelude.{ℕ, Bool, true, false, List, [], ◌∷◌, ◌++◌, if◌then◌else◌}
use Rattle.vp_zpl.specs.declared.item.Command.{Command}
use Rattle.vp_zpl.specs.declared.item.Command.TheVariants.{FormatStart, FormatEnd}
use Rattle.vp_zpl.specs.Items.{Item}
use Rattle.vp_zpl.specs.Items.Item.{Given, Data}

-- items, the newest first, with these after them
abbrev pub followed_by : List Item → List Item → List Item
followed_by before [] = before
followed_by before (item ∷ more) = followed_by (item ∷ before) more

-- whether a format is open
abbrev pub is_open_by : Command → Bool → Bool
is_open_by FormatStart opened = true
is_open_by FormatEnd opened = false
is_open_by _ opened = opened

abbrev pub is_open : List Item → Bool
is_open [] = false
is_open (Given command name sent ∷ before) = is_open_by command (is_open before)
is_open (Data byte ∷ before) = is_open before

-- what an item leaves of something that commands say: they act in an open format alone
abbrev pub acting : {S : Type 0} → (Command → S → S) → Bool → Item → S → S
acting by opened (Given command name sent) old = if opened then by command old else old
acting by opened (Data byte) old = old

-- the bytes of the open format's fields, also of contents that were replaced
abbrev pub stored_by : Command → List ℕ → List ℕ
stored_by FormatEnd bytes = []
stored_by _ bytes = bytes

abbrev pub stored : List Item → List ℕ
stored [] = []
stored (Given command name sent ∷ before) =
    if is_open before then stored_by command (stored before) else stored before
stored (Data byte ∷ before) = if is_open before then stored before ++ byte ∷ [] else stored before
