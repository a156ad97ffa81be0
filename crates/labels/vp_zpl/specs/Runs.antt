-- How many bytes from the front of these are data by themselves, behind what was read.
use Rattle.std.specs.Prelude.{ℕ, ◌-◌, ◌==◌, Bool, false, not, ◌&&◌, ◌||◌, Option, Some, None, List, [], ◌∷◌, length, min, if◌then◌else◌}
use Rattle.std.specs.List.{prefix_len}
use Rattle.vp_zpl.specs.declared.reading.Reading.{Reading}
use Rattle.vp_zpl.specs.declared.name.Kind.{Kind}
use Rattle.vp_zpl.specs.declared.name.Kind.TheVariants as kinds
use Rattle.vp_zpl.specs.Spelling.{is_sign, is_line_end, behind_commas}
use Rattle.vp_zpl.specs.Commands.{kind_named, is_b, count_of, is_whole, head, Cut, indicator}
use Rattle.vp_zpl.specs.Items.{is_code, waiting}

-- a byte that is no part of data, but in binary data
abbrev pub ends_data : ℕ → Bool
ends_data c = is_sign c || is_line_end c

abbrev pub is_indicated : Option ℕ → ℕ → Bool
is_indicated None c = false
is_indicated (Some x) c = c == x

-- a byte of ^FD that is itself
abbrev pub is_text : Option ℕ → ℕ → Bool
is_text indicated c = not (ends_data c || is_indicated indicated c)

-- a byte of ^GF A
abbrev pub is_kept_code : ℕ → Bool
is_kept_code c = not (ends_data c) && is_code c

abbrev pub text_front : List ℕ → Option ℕ → List ℕ → ℕ
text_front [] indicated input = prefix_len (is_text indicated) input
text_front (a ∷ undecided) indicated input = 0

abbrev pub picture_front : List ℕ → List ℕ → ℕ
picture_front args input =
    if is_b (head args) then min (length input) (count_of (head args) - length (behind_commas 4 args))
    else prefix_len is_kept_code input

abbrev pub front_named : Kind → Option ℕ → List ℕ → List ℕ → ℕ
front_named kinds.FieldData indicated args input = text_front (waiting indicated args) indicated input
front_named kinds.Graphic indicated args input = if is_whole args then picture_front args input else 0
front_named _ indicated args input = 0

-- by the command that stands open
unfoldable pub front_in : Reading → List (List ℕ) → List ℕ → List ℕ → ℕ
front_in reading before (sign ∷ a ∷ b ∷ args) input =
    front_named (kind_named reading sign a b) (indicator reading before) args input
front_in reading before _ input = 0

abbrev pub data_front : Reading → Cut → List ℕ → ℕ
data_front reading s input = front_in reading s.before s.open_one input
