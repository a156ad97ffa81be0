-- What is in force is in its ranges.
use Rattle.std.proofs.Common.{ℕ, Bool, true, false, Option, List, [], ◌∷◌, arith}
use Rattle.vp_zpl.specs.declared.item.Command.{Command}
use Rattle.vp_zpl.specs.declared.item.Command.TheVariants.{LabelHome, PrintWidth, LabelLength, DefaultFont, BarDefaults as SetBarDefaults, FormatEnd, PrintQuantity}
use Rattle.vp_zpl.specs.Items.{Item}
use Rattle.vp_zpl.specs.Items.Item.{Given, Data}
use Rattle.vp_label_settings.specs.declared.size.CharacterSize.{CharacterSize}
use Rattle.vp_label_settings.specs.declared.settings.Home.{Home}
use Rattle.vp_label_settings.specs.declared.settings.BarDefaults.{BarDefaults}
use Rattle.vp_label_size.specs.declared.TheConstants.{WIDEST, LONGEST}
use Rattle.vp_label_settings.specs.Ranges.{size_given}
use Rattle.vp_label_settings.specs.Formats.{is_open, acting}
use Rattle.vp_label_settings.specs.Settings.{home_by, print_width_by, label_length_by, default_font_by, bar_defaults_by, quantity_by, first_font, home, print_width, label_length, default_font, bar_defaults, quantity, settings_of}
use Rattle.vp_label_settings.specs.Laws.{Within, IsSize, IsHome, AreBars, AreInRange}

-- what holds of a setting before an item holds after it too, if each command keeps it
acted : {S : Type 0} (P : S → Type 0) (by : Command → S → S) → ((c : Command) (old : S) → P old → P (by c old)) → (opened : Bool) (item : Item) (old : S) → P old → P (acting by opened item old)
acted P by kept true (Given c name sent) old was = kept c old was
acted P by kept false (Given c name sent) old was = was
acted P by kept opened (Data b) old was = was

home_by-fits : (c : Command) (old : Home) → IsHome old → IsHome (home_by c old)
home_by-fits (LabelHome x y) old was = grind arith
home_by-fits _ old was = was

pub home-fits : (before : List Item) → IsHome (home before)
home-fits [] = record { x = omega arith; y = omega arith }
home-fits (item ∷ before) = acted IsHome home_by home_by-fits (is_open before) item (home before) (home-fits before)

print_width_by-fits : (c : Command) (old : ℕ) → Within 1 WIDEST old → Within 1 WIDEST (print_width_by c old)
print_width_by-fits (PrintWidth dots) old was = grind arith
print_width_by-fits _ old was = was

print_width-fits : (before : List Item) → Within 1 WIDEST (print_width before)
print_width-fits [] = record { least = omega arith; most = omega arith }
print_width-fits (item ∷ before) = acted (Within 1 WIDEST) print_width_by print_width_by-fits (is_open before) item (print_width before) (print_width-fits before)

label_length_by-fits : (c : Command) (old : ℕ) → Within 1 LONGEST old → Within 1 LONGEST (label_length_by c old)
label_length_by-fits (LabelLength dots) old was = grind arith
label_length_by-fits _ old was = was

label_length-fits : (before : List Item) → Within 1 LONGEST (label_length before)
label_length-fits [] = record { least = omega arith; most = omega arith }
label_length-fits (item ∷ before) = acted (Within 1 LONGEST) label_length_by label_length_by-fits (is_open before) item (label_length before) (label_length-fits before)

pub size_given-fits : (h w : Option ℕ) (d : CharacterSize) → IsSize d → IsSize (size_given h w d)
size_given-fits h w d fits = grind arith

first_font-fits : IsSize first_font
first_font-fits = grind arith

default_font_by-fits : (c : Command) (old : CharacterSize) → IsSize old → IsSize (default_font_by c old)
default_font_by-fits (DefaultFont height width) old was = size_given-fits height width first_font first_font-fits
default_font_by-fits _ old was = was

default_font-fits : (before : List Item) → IsSize (default_font before)
default_font-fits [] = first_font-fits
default_font-fits (item ∷ before) = acted IsSize default_font_by default_font_by-fits (is_open before) item (default_font before) (default_font-fits before)

bar_defaults_by-fits : (c : Command) (old : BarDefaults) → AreBars old → AreBars (bar_defaults_by c old)
bar_defaults_by-fits (SetBarDefaults narrow ratio height) old was = grind arith
bar_defaults_by-fits _ old was = was

bar_defaults-fits : (before : List Item) → AreBars (bar_defaults before)
bar_defaults-fits [] = grind (arith)
bar_defaults-fits (item ∷ before) = acted AreBars bar_defaults_by bar_defaults_by-fits (is_open before) item (bar_defaults before) (bar_defaults-fits before)

quantity_by-fits : (c : Command) (old : ℕ) → Within 1 99999999 old → Within 1 99999999 (quantity_by c old)
quantity_by-fits (PrintQuantity n) old was = grind arith
quantity_by-fits FormatEnd old was = grind arith
quantity_by-fits _ old was = was

quantity-fits : (before : List Item) → Within 1 99999999 (quantity before)
quantity-fits [] = record { least = omega arith; most = omega arith }
quantity-fits (item ∷ before) = acted (Within 1 99999999) quantity_by quantity_by-fits (is_open before) item (quantity before) (quantity-fits before)

pub settings-fit : (before : List Item) → AreInRange (settings_of before)
settings-fit before = record {
  home = home-fits before;
  print_width = print_width-fits before;
  label_length = label_length-fits before;
  default_font = default_font-fits before;
  bar_defaults = bar_defaults-fits before;
  quantity = quantity-fits before;
}
