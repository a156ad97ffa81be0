-- The table of the commands: how each begins, and how many arguments come before any data.
use Rattle.std.specs.Prelude.{ℕ, ◌==◌, ◌&&◌, ◌||◌, nat_le, Bool, true, false, Option, Some, None, List}
use Rattle.std.specs.Prelude.{[], ◌∷◌, slice_index, if◌then◌else◌}
use Rattle.vp_esc.specs.declared.reading.Reading.{Reading}
use Rattle.vp_esc.specs.declared.reading.Reading.TheVariants.{Profile, Whole}
use Rattle.vp_esc.specs.declared.item.Lead.{Lead}
use Rattle.vp_esc.specs.declared.item.Lead.TheVariants.{Esc, Gs, Fs, Dle}
use Rattle.vp_esc.specs.declared.command.Command.{Command}
use Rattle.vp_esc.specs.declared.command.Command.TheVariants.{Plain, TabStops, Columns, Raster, Symbol}
use Rattle.vp_esc.specs.declared.command.Command.TheVariants.{Function, Graphics, ReadPast}
use Rattle.vp_esc.specs.declared.command.ReadPast.{ReadPast as ReadPastCommand}
use Rattle.vp_esc.specs.declared.command.ReadPast.TheVariants as past
use Rattle.vp_esc.specs.declared.command.Plain.{Plain as PlainCommand}
use Rattle.vp_esc.specs.declared.command.Plain.TheVariants.{Alone, OfByte, OfWord, Area, Cut, Sensor}
use Rattle.vp_esc.specs.declared.command.Plain.TheVariants.{RealTime, Unused}
use Rattle.vp_esc.specs.declared.command.Alone.TheVariants as alone
use Rattle.vp_esc.specs.declared.command.OfByte.TheVariants as of_byte
use Rattle.vp_esc.specs.declared.command.OfWord.TheVariants as of_word
use Rattle.vp_esc.specs.declared.command.Arguments.{Arguments}
use Rattle.vp_esc.specs.declared.command.Arguments.TheVariants as arguments
use Rattle.vp_esc.specs.Values.{is_cut, is_feed_cut, is_other_cut, is_column_mode, is_kind_to_zero}
use Rattle.vp_esc.specs.Values.{is_kind_counted, is_added_kind}

abbrev pub lead_of : ℕ → Option Lead
lead_of b =
    if b == 0x1B then Some Esc
    else if b == 0x1D then Some Gs
    else if b == 0x1C then Some Fs
    else if b == 0x10 then Some Dle
    else None

abbrev pub lead_byte : Lead → ℕ
lead_byte Esc = 0x1B
lead_byte Gs = 0x1D
lead_byte Fs = 0x1C
lead_byte Dle = 0x10

-- The profile: the byte after ESC,
abbrev pub esc_command : ℕ → Option Command
esc_command b =
    if b == 0x0C then Some (Plain (Alone alone.PrintPage))
    else if b == 0x20 then Some (Plain (OfByte of_byte.RightSpacing))
    else if b == 0x21 then Some (Plain (OfByte of_byte.PrintMode))
    else if b == 0x24 then Some (Plain (OfWord of_word.Position))
    else if b == 0x2A then Some Columns
    else if b == 0x2D then Some (Plain (OfByte of_byte.Underline))
    else if b == 0x32 then Some (Plain (Alone alone.DefaultLineSpacing))
    else if b == 0x33 then Some (Plain (OfByte of_byte.LineSpacing))
    else if b == 0x40 then Some (Plain (Alone alone.Initialize))
    else if b == 0x44 then Some TabStops
    else if b == 0x45 then Some (Plain (OfByte of_byte.Emphasized))
    else if b == 0x47 then Some (Plain (OfByte of_byte.DoubleStrike))
    else if b == 0x4A then Some (Plain (OfByte of_byte.FeedDots))
    else if b == 0x4C then Some (Plain (Alone alone.PageMode))
    else if b == 0x4D then Some (Plain (OfByte of_byte.Font))
    else if b == 0x53 then Some (Plain (Alone alone.StandardMode))
    else if b == 0x54 then Some (Plain (OfByte of_byte.Direction))
    else if b == 0x57 then Some (Plain Area)
    else if b == 0x5C then Some (Plain (OfWord of_word.MovePosition))
    else if b == 0x61 then Some (Plain (OfByte of_byte.Justify))
    else if b == 0x63 then Some (Plain Sensor)
    else if b == 0x64 then Some (Plain (OfByte of_byte.FeedLines))
    else if b == 0x69 then Some (Plain (Alone alone.CutLeavingOnePoint))
    else if b == 0x6D then Some (Plain (Alone alone.CutLeavingThreePoints))
    else if b == 0x70 then Some (Plain (Unused arguments.Three))
    else if b == 0x25 || b == 0x3D || b == 0x3F || b == 0x52 || b == 0x55
    || b == 0x56 || b == 0x72 || b == 0x74 || b == 0x7B
    then Some (Plain (Unused arguments.One))
    else None

-- after GS,
abbrev pub gs_command : ℕ → Option Command
gs_command b =
    if b == 0x21 then Some (Plain (OfByte of_byte.Magnify))
    else if b == 0x24 then Some (Plain (OfWord of_word.VerticalPosition))
    else if b == 0x28 then Some Function
    else if b == 0x38 then Some Graphics
    else if b == 0x42 then Some (Plain (OfByte of_byte.Inverse))
    else if b == 0x48 then Some (Plain (OfByte of_byte.HriPosition))
    else if b == 0x4C then Some (Plain (OfWord of_word.LeftMargin))
    else if b == 0x50 then Some (Plain (Unused arguments.Two))
    else if b == 0x56 then Some (Plain Cut)
    else if b == 0x57 then Some (Plain (OfWord of_word.AreaWidth))
    else if b == 0x5C then Some (Plain (OfWord of_word.MoveVerticalPosition))
    else if b == 0x66 then Some (Plain (OfByte of_byte.HriFont))
    else if b == 0x68 then Some (Plain (OfByte of_byte.BarHeight))
    else if b == 0x6B then Some Symbol
    else if b == 0x76 then Some Raster
    else if b == 0x77 then Some (Plain (OfByte of_byte.BarModule))
    else if b == 0x49 || b == 0x61 || b == 0x62 || b == 0x72 then Some (Plain (Unused arguments.One))
    else None

-- after FS,
abbrev pub fs_command : ℕ → Option Command
fs_command b =
    if b == 0x26 || b == 0x2E then Some (Plain (Unused arguments.None))
    else if b == 0x21 || b == 0x2D || b == 0x43 || b == 0x57 then Some (Plain (Unused arguments.One))
    else if b == 0x53 || b == 0x70 then Some (Plain (Unused arguments.Two))
    else None

-- and after DLE.
abbrev pub dle_command : ℕ → Option Command
dle_command b =
    if b == 0x04 then Some (Plain RealTime)
    else if b == 0x05 then Some (Plain (Unused arguments.One))
    else None

abbrev pub profile_command : Lead → ℕ → Option Command
profile_command Esc b = esc_command b
profile_command Gs b = gs_command b
profile_command Fs b = fs_command b
profile_command Dle b = dle_command b

-- What the whole language adds: the byte after ESC,
abbrev pub esc_added : ℕ → Option Command
esc_added b =
    if b == 0x28 then Some (ReadPast past.Family)
    else if b == 0x3C || b == 0x6F || b == 0x71 || b == 0x76 then Some (Plain (Unused arguments.None))
    else if b == 0x46 || b == 0x4B || b == 0x65 || b == 0x75 || b == 0x7A
    then Some (Plain (Unused arguments.One))
    else if b == 0x66 then Some (Plain (Unused arguments.Two))
    else None

-- after GS,
abbrev pub gs_added : ℕ → Option Command
gs_added b =
    if b == 0x2A then Some (ReadPast past.StoredImage)
    else if b == 0x43 then Some (ReadPast past.Counter)
    else if b == 0x51 then Some (ReadPast past.ColumnImage)
    else if b == 0x67 then Some (ReadPast past.Maintenance)
    else if b == 0x7A then Some (ReadPast past.Recovery)
    else if b == 0x0C || b == 0x3A || b == 0x3C || b == 0x63 then Some (Plain (Unused arguments.None))
    else if b == 0x2F || b == 0x45 || b == 0x54 || b == 0x6A then Some (Plain (Unused arguments.One))
    else if b == 0x41 then Some (Plain (Unused arguments.Two))
    else if b == 0x5E then Some (Plain (Unused arguments.Three))
    else None

-- after FS,
abbrev pub fs_added : ℕ → Option Command
fs_added b =
    if b == 0x28 then Some (ReadPast past.Family)
    else if b == 0x32 then Some (ReadPast past.TwoByteCell)
    else if b == 0x61 then Some (ReadPast past.Cheque)
    else if b == 0x67 then Some (ReadPast past.UserBytes)
    else if b == 0x63 then Some (Plain (Unused arguments.None))
    else if b == 0x62 then Some (Plain (Unused arguments.One))
    else if b == 0x3F then Some (Plain (Unused arguments.Two))
    else None

-- and after DLE.
abbrev pub dle_added : ℕ → Option Command
dle_added b = if b == 0x14 then Some (ReadPast past.RealTimeRequest) else None

abbrev pub added_command : Lead → ℕ → Option Command
added_command Esc b = esc_added b
added_command Gs b = gs_added b
added_command Fs b = fs_added b
added_command Dle b = dle_added b

abbrev pub or_else : Option Command → Option Command → Option Command
or_else None other = other
or_else (Some command) other = Some command

-- the commands by their first two bytes
unfoldable pub command_of : Reading → Lead → ℕ → Option Command
command_of Profile lead b = profile_command lead b
command_of Whole lead b = or_else (profile_command lead b) (added_command lead b)

abbrev pub count_of : Arguments → ℕ
count_of arguments.None = 0
count_of arguments.One = 1
count_of arguments.Two = 2
count_of arguments.Three = 3

-- DLE EOT: these n have one more argument
abbrev pub has_second : ℕ → Bool
has_second n = n == 0x07 || n == 0x08 || n == 0x12

-- GS V: these m have one more argument
abbrev pub has_feed : ℕ → Bool
has_feed m = is_feed_cut m || is_other_cut m

-- the arguments of a command without data, where the first of them is known
abbrev pub plain_len : PlainCommand → List ℕ → ℕ
plain_len (Alone _) args = 0
plain_len (OfByte _) args = 1
plain_len (OfWord _) args = 2
plain_len Area args = 8
plain_len Cut args = if has_feed (slice_index args 0) then 2 else 1
plain_len Sensor args = 2
plain_len RealTime args = if has_second (slice_index args 0) then 2 else 1
plain_len (Unused count) args = count_of count

-- DLE DC4 fn: the arguments, with fn
abbrev pub request_len : ℕ → ℕ
request_len fn = if fn == 0x03 then 6 else if fn == 0x07 then 2 else if fn == 0x08 then 8 else 3

-- the arguments before any data of a command that is read past, where the first of them is known
abbrev pub past_len : ReadPastCommand → List ℕ → ℕ
past_len past.Family args = 3
past_len past.StoredImage args = 2
past_len past.ColumnImage args = 6
past_len past.TwoByteCell args = 2
past_len past.UserBytes args = 8
past_len past.Counter args = if slice_index args 0 == 0x31 then 7 else 3
past_len past.Maintenance args = 4
past_len past.Recovery args = 3
past_len past.Cheque args = if slice_index args 0 == 0x30 then 2 else 1
past_len past.RealTimeRequest args = request_len (slice_index args 0)

-- the arguments before any data
abbrev pub head_len : Command → List ℕ → ℕ
head_len (Plain plain) args = plain_len plain args
head_len TabStops args = 0
head_len Columns args = 3
head_len Raster args = 6
head_len Symbol args = if is_kind_to_zero (slice_index args 0) then 1 else 2
head_len Function args = 3
head_len Graphics args = 5
head_len (ReadPast past) args = past_len past args

-- the first argument of a command that is read past is one of the table's
abbrev pub past_has : ReadPastCommand → ℕ → Bool
past_has past.ColumnImage n = n == 0x30
past_has past.UserBytes n = n == 0x31 || n == 0x32
past_has past.Counter n = n == 0x30 || n == 0x31 || n == 0x32
past_has past.Maintenance n = n == 0x30 || n == 0x32
past_has past.Recovery n = n == 0x30
past_has past.Cheque n = n == 0x30 || n == 0x31 || n == 0x32
past_has _ n = true

-- the first argument, which may be a part of the name, is one that the table has in each reading
abbrev pub has : Command → ℕ → Bool
has (Plain Cut) m = is_cut m || is_feed_cut m
has (Plain Sensor) n = nat_le 0x33 n && nat_le n 0x35
has Columns m = is_column_mode m
has Raster z = z == 0x30
has Symbol m = is_kind_to_zero m || is_kind_counted m
has Graphics n = n == 0x4C
has (ReadPast past) n = past_has past n
has _ n = true

-- one that the whole language adds
abbrev pub adds : Command → ℕ → Bool
adds (Plain Cut) m = is_other_cut m
adds (Plain Sensor) n = n == 0x30 || n == 0x31
adds Symbol m = is_added_kind m
adds Graphics n = true
adds _ n = false

abbrev pub lists : Reading → Command → ℕ → Bool
lists Profile command n = has command n
lists Whole command n = has command n || adds command n

-- the arguments so far are those of a command of the table
abbrev pub is_listed : Reading → Command → List ℕ → Bool
is_listed reading command [] = true
is_listed reading command (n ∷ args) = lists reading command n
