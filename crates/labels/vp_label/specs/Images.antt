-- What is printed, as images, by looking back over the items, of which the newest comes first.
use Rattle.std.specs.Prelude.{◌<◌, ◌≤◌, if◌then◌else◌, List, [], ◌∷◌, ◌++◌, replicate}
use Rattle.std.specs.List.{AllByRecursion}
use Rattle.vp_dots.specs.Images.{Image}
use Rattle.vp_glyph.specs.Sheets.{Sheets}
use Rattle.vp_zpl.specs.declared.item.Command.{Command}
use Rattle.vp_zpl.specs.declared.item.Command.TheVariants.{FormatEnd}
use Rattle.vp_zpl.specs.Items.{Item}
use Rattle.vp_zpl.specs.Items.Item.{Given, Data}
use Rattle.vp_format.specs.declared.field.Field.{Field}
use Rattle.vp_label_size.specs.declared.TheConstants.{WIDEST, LONGEST}
use Rattle.vp_label_settings.specs.Formats.{is_open}
use Rattle.vp_label_settings.specs.Settings.{quantity}
use Rattle.vp_label.specs.Entries.{printed_entries}
use Rattle.vp_label.specs.Prints.{image}

-- none of a format without fields
abbrev pub if_any : List Field → List Image → List Image
if_any [] images = []
if_any (field ∷ fields) images = images

-- ^XZ completes as many copies of the format's image as ^PQ says
abbrev pub completed_by : Sheets → List Item → Command → List Image
completed_by sheets before FormatEnd =
    if_any (printed_entries sheets before) (replicate (quantity before) (image sheets before))
completed_by sheets before _ = []

-- the images that an item completes
abbrev pub completed : Sheets → List Item → Item → List Image
completed sheets before (Given command name sent) =
    if is_open before then completed_by sheets before command else []
completed sheets before (Data byte) = []

-- all images that are printed
abbrev pub images : Sheets → List Item → List Image
images sheets [] = []
images sheets (item ∷ before) = images sheets before ++ completed sheets before item

-- an image of a label: a dot or more across and down, and no more than a label may have
pub record IsOfLabel (image : Image) : Type 0 where
  pub wide : 0 < image.width
  pub narrow : image.width ≤ WIDEST
  pub high : 0 < image.height
  pub low : image.height ≤ LONGEST

abbrev pub AreOfLabels : List Image → Type 0
AreOfLabels images = AllByRecursion IsOfLabel images
