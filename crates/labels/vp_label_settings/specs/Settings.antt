-- The settings of labels, by looking back: each is what the last command of a format that
-- names it says, and stays so from format to format. A command that leaves a parameter out
-- sets its default, and not what was in force.
use Rattle.std.specs.Prelude.{ℕ, Bool, false, Option, unwrap_or, List, [], ◌∷◌}
use Rattle.vp_zpl.specs.declared.item.Orientation.{Orientation}
use Rattle.vp_zpl.specs.declared.item.Orientation.TheVariants.{Normal}
use Rattle.vp_zpl.specs.declared.item.Command.{Command}
use Rattle.vp_zpl.specs.declared.item.Command.TheVariants.{FormatEnd, LabelHome, PrintWidth, LabelLength, PrintOrientation, MirrorImage, LabelReverse, FieldOrientation, DefaultFont, BarDefaults as SetBarDefaults, PrintQuantity}
use Rattle.vp_zpl.specs.Items.{Item}
use Rattle.vp_label_settings.specs.declared.size.CharacterSize.{CharacterSize}
use Rattle.vp_label_settings.specs.declared.settings.Home.{Home}
use Rattle.vp_label_settings.specs.declared.settings.BarDefaults.{BarDefaults}
use Rattle.vp_label_settings.specs.declared.settings.Settings.{Settings}
use Rattle.vp_label_size.specs.declared.TheConstants.{WIDEST, LONGEST}
use Rattle.vp_label_settings.specs.Ranges.{ranged, size_given}
use Rattle.vp_label_settings.specs.Formats.{is_open, acting}

-- ^FO, ^FT, ^LH: a coordinate, in dots
abbrev pub coordinate : Option ℕ → ℕ
coordinate n = ranged 0 32000 0 n

-- ^LH: the place from which fields are counted
abbrev pub home_by : Command → Home → Home
home_by (LabelHome x y) old = record { x = coordinate x; y = coordinate y }
home_by _ old = old

abbrev pub home : List Item → Home
home [] = record { x = 0; y = 0 }
home (item ∷ before) = acting home_by (is_open before) item (home before)

-- ^PW: how wide a label is
abbrev pub print_width_by : Command → ℕ → ℕ
print_width_by (PrintWidth dots) old = ranged 1 WIDEST 832 dots
print_width_by _ old = old

abbrev pub print_width : List Item → ℕ
print_width [] = 832
print_width (item ∷ before) = acting print_width_by (is_open before) item (print_width before)

-- ^LL: how long it is
abbrev pub label_length_by : Command → ℕ → ℕ
label_length_by (LabelLength dots) old = ranged 1 LONGEST 1218 dots
label_length_by _ old = old

abbrev pub label_length : List Item → ℕ
label_length [] = 1218
label_length (item ∷ before) = acting label_length_by (is_open before) item (label_length before)

-- ^PO: whether a label is turned by 180 degrees
abbrev pub is_inverted_by : Command → Bool → Bool
is_inverted_by (PrintOrientation inverted) old = unwrap_or inverted false
is_inverted_by _ old = old

abbrev pub is_inverted : List Item → Bool
is_inverted [] = false
is_inverted (item ∷ before) = acting is_inverted_by (is_open before) item (is_inverted before)

-- ^PM: whether it is mirrored
abbrev pub is_mirrored_by : Command → Bool → Bool
is_mirrored_by (MirrorImage mirrored) old = unwrap_or mirrored false
is_mirrored_by _ old = old

abbrev pub is_mirrored : List Item → Bool
is_mirrored [] = false
is_mirrored (item ∷ before) = acting is_mirrored_by (is_open before) item (is_mirrored before)

-- ^LR: whether every field reverses
abbrev pub label_reverse_by : Command → Bool → Bool
label_reverse_by (LabelReverse reversed) old = unwrap_or reversed false
label_reverse_by _ old = old

abbrev pub label_reverse : List Item → Bool
label_reverse [] = false
label_reverse (item ∷ before) = acting label_reverse_by (is_open before) item (label_reverse before)

-- ^FW: how fields are turned that don't say it
abbrev pub field_orientation_by : Command → Orientation → Orientation
field_orientation_by (FieldOrientation orientation) old = unwrap_or orientation Normal
field_orientation_by _ old = old

abbrev pub field_orientation : List Item → Orientation
field_orientation [] = Normal
field_orientation (item ∷ before) =
    acting field_orientation_by (is_open before) item (field_orientation before)

-- ^CF: the size of characters of fields that don't say it
abbrev pub first_font : CharacterSize
first_font = record { height = 9; width = 5 }

abbrev pub default_font_by : Command → CharacterSize → CharacterSize
default_font_by (DefaultFont height width) old = size_given height width first_font
default_font_by _ old = old

abbrev pub default_font : List Item → CharacterSize
default_font [] = first_font
default_font (item ∷ before) = acting default_font_by (is_open before) item (default_font before)

-- ^BY: the narrow bar's width in dots, the ratio of a wide one to it in tenths,
-- and the height of bars that don't say it
abbrev pub bar_defaults_by : Command → BarDefaults → BarDefaults
bar_defaults_by (SetBarDefaults narrow ratio height) old =
    record {
      module_dots = ranged 1 10 2 narrow;
      ratio_tenths = ranged 20 30 30 ratio;
      height = ranged 1 8000 10 height;
    }
bar_defaults_by _ old = old

abbrev pub bar_defaults : List Item → BarDefaults
bar_defaults [] = record { module_dots = 2; ratio_tenths = 30; height = 10 }
bar_defaults (item ∷ before) = acting bar_defaults_by (is_open before) item (bar_defaults before)

-- ^PQ: how many copies are printed; ^XZ clears it, so that it begins at 1 in each format
abbrev pub quantity_by : Command → ℕ → ℕ
quantity_by (PrintQuantity copies) old = ranged 1 99999999 1 copies
quantity_by FormatEnd old = 1
quantity_by _ old = old

abbrev pub quantity : List Item → ℕ
quantity [] = 1
quantity (item ∷ before) = acting quantity_by (is_open before) item (quantity before)

-- all of these
abbrev pub settings_of : List Item → Settings
settings_of before = record {
  home = home before;
  print_width = print_width before;
  label_length = label_length before;
  is_inverted = is_inverted before;
  is_mirrored = is_mirrored before;
  label_reverse = label_reverse before;
  field_orientation = field_orientation before;
  default_font = default_font before;
  bar_defaults = bar_defaults before;
  quantity = quantity before;
}

-- what a command of a format leaves of them
abbrev pub settings_by : Command → Settings → Settings
settings_by command old = record {
  home = home_by command old.home;
  print_width = print_width_by command old.print_width;
  label_length = label_length_by command old.label_length;
  is_inverted = is_inverted_by command old.is_inverted;
  is_mirrored = is_mirrored_by command old.is_mirrored;
  label_reverse = label_reverse_by command old.label_reverse;
  field_orientation = field_orientation_by command old.field_orientation;
  default_font = default_font_by command old.default_font;
  bar_defaults = bar_defaults_by command old.bar_defaults;
  quantity = quantity_by command old.quantity;
}
