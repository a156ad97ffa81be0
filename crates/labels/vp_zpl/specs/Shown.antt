-- What is kept of parameters, and what an item of the reader shows.
use Rattle.std.specs.Prelude.{ℕ, Option, None, Some, List, [], ◌∷◌, map}
use Rattle.vp_zpl.specs.declared.part.Part.{Part}
use Rattle.vp_zpl.specs.declared.item.DataBytes.{DataBytes}
use Rattle.vp_zpl.specs.declared.item.DataBytes.TheVariants as known
use Rattle.vp_zpl.specs.declared.item.ZplItem.{ZplItem}
use Rattle.vp_zpl.specs.declared.item.ZplItem.TheVariants as lent
use Rattle.vp_zpl.specs.Spelling.{Kept}
use Rattle.vp_zpl.specs.Items.Item.{Given}
use Rattle.vp_zpl.specs.Items.{Item, data_items}

abbrev pub shown_part : Part → Kept
shown_part p = record { bytes = p.bytes.items; is_long = p.is_long }

abbrev pub shown_parts : List Part → List Kept
shown_parts parts = map shown_part parts

abbrev pub data_bytes : DataBytes → List ℕ
data_bytes (known.One bytes) = bytes
data_bytes (known.Two bytes) = bytes
data_bytes (known.Three bytes) = bytes

-- a command is one item, and each byte of data one
abbrev pub shown_item : ZplItem → List Item
shown_item (lent.Command sent) =
    Given sent.now.command sent.now.name (shown_parts sent.now.parameters.items) ∷ []
shown_item (lent.Data bytes) = data_items (data_bytes bytes.now)

abbrev pub shown_items : Option ZplItem → List Item
shown_items None = []
shown_items (Some item) = shown_item item
