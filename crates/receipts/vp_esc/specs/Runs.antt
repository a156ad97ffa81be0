-- How many bytes are taken in one run, by what was read before them.
use Rattle.std.specs.Prelude.{ℕ, ◌+◌, ◌-◌, Bool, ◌&&◌, Option, Some, None, List, [], ◌∷◌, length, nat_lt}
use Rattle.std.specs.Prelude.{if◌then◌else◌}
use Rattle.std.specs.List.{prefix_len}
use Rattle.vp_esc.specs.declared.reading.Reading.{Reading}
use Rattle.vp_esc.specs.declared.item.Lead.{Lead}
use Rattle.vp_esc.specs.declared.command.Command.{Command}
use Rattle.vp_esc.specs.Command.{lead_of, command_of, head_len, is_listed}
use Rattle.vp_esc.specs.Units.{data_len, prints_rows, is_skipped, stores_bytes}
use Rattle.vp_esc.specs.Split.{split}
use Rattle.vp_esc.specs.Reader.{is_text}

-- how many bytes of data are still to come before the last one, behind a whole head
abbrev pub left_before_last : Command → List ℕ → ℕ
left_before_last command args =
    if nat_lt (length args) (head_len command args) then 0
    else head_len command args + data_len command args - length args - 1

-- of the commands that are meant
abbrev pub left_named : Reading → (Command → List ℕ → Bool) → Option Command → List ℕ → ℕ
left_named reading is_meant None args = 0
left_named reading is_meant (Some command) args =
    if is_listed reading command args && is_meant command args then left_before_last command args else 0

abbrev pub left_after : Reading → (Command → List ℕ → Bool) → Option Lead → List ℕ → ℕ
left_after reading is_meant None bytes = 0
left_after reading is_meant (Some lead) [] = 0
left_after reading is_meant (Some lead) (b ∷ args) =
    left_named reading is_meant (command_of reading lead b) args

-- by the command that stands open
unfoldable pub left_in : Reading → (Command → List ℕ → Bool) → List ℕ → ℕ
left_in reading is_meant [] = 0
left_in reading is_meant (b ∷ bytes) = left_after reading is_meant (lead_of b) bytes

-- bytes of a raster that is printed, before its last
abbrev pub raster_left : Reading → List ℕ → ℕ
raster_left reading bytes = left_in reading prints_rows (split reading bytes).rest

-- bytes of data that give nothing, before the last
abbrev pub skipped_left : Reading → List ℕ → ℕ
skipped_left reading bytes = left_in reading is_skipped (split reading bytes).rest

-- bytes that are stored for a QR symbol, before the last
abbrev pub stored_left : Reading → List ℕ → ℕ
stored_left reading bytes = left_in reading stores_bytes (split reading bytes).rest

abbrev pub text_in : List ℕ → List ℕ → ℕ
text_in [] input = prefix_len is_text input
text_in (b ∷ rest) input = 0

-- text at the front of an input, where no command stands open
abbrev pub text_front : Reading → List ℕ → List ℕ → ℕ
text_front reading bytes input = text_in (split reading bytes).rest input
