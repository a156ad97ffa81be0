-- The table's rows, each with all its bytes, said apart from how a stream is divided.
use Rattle.std.specs.Prelude.{◌≡◌, ◌⊎◌, ℕ, ◌+◌, ◌*◌, ◌<◌, ◌≤◌, ◌==◌, true, false, Option, Some, None, List, []}
use Rattle.std.specs.Prelude.{◌∷◌, ◌++◌, length}
use Rattle.std.specs.List.{list_any}
use Rattle.vp_esc.specs.declared.reading.Reading.{Reading}
use Rattle.vp_esc.specs.declared.reading.Reading.TheVariants.{Whole}
use Rattle.vp_esc.specs.declared.item.Lead.{Lead}
use Rattle.vp_esc.specs.declared.command.Command.{Command}
use Rattle.vp_esc.specs.declared.command.Command.TheVariants.{Plain, TabStops, Columns, Raster, Symbol}
use Rattle.vp_esc.specs.declared.command.Command.TheVariants.{Function, Graphics, ReadPast}
use Rattle.vp_esc.specs.declared.command.ReadPast.{ReadPast as ReadPastCommand}
use Rattle.vp_esc.specs.declared.command.Plain.{Plain as PlainCommand}
use Rattle.vp_esc.specs.declared.command.Plain.TheVariants.{Alone, OfByte, OfWord, Area, Cut, Sensor}
use Rattle.vp_esc.specs.declared.command.Plain.TheVariants.{RealTime, Unused}
use Rattle.vp_esc.specs.Values.{column_mode_of, column_bytes, is_kind_to_zero}
use Rattle.vp_esc.specs.Command.{lead_of, lead_byte, command_of, count_of, has_feed, has_second, past_len}
use Rattle.vp_esc.specs.Command.{lists, is_listed}
use Rattle.vp_esc.specs.Units.{rises_from, past_data}
use Rattle.vp_esc.specs.Reader.{last_or}

-- ESC W xL xH yL yH dxL dxH dyL dyH
pub record IsArea (args : List ℕ) : Type 0 where
  pub xl : ℕ
  pub xh : ℕ
  pub yl : ℕ
  pub yh : ℕ
  pub dxl : ℕ
  pub dxh : ℕ
  pub dyl : ℕ
  pub dyh : ℕ
  pub bytes : args ≡ xl ∷ xh ∷ yl ∷ yh ∷ dxl ∷ dxh ∷ dyl ∷ dyh ∷ []

-- one argument, or two
pub record IsOne (args : List ℕ) (P : ℕ → Type 0) : Type 0 where
  pub first : ℕ
  pub bytes : args ≡ first ∷ []
  pub is : P first

pub record IsTwo (args : List ℕ) (P : ℕ → Type 0) : Type 0 where
  pub first : ℕ
  pub second : ℕ
  pub bytes : args ≡ first ∷ second ∷ []
  pub is : P first

abbrev pub IsPlain : PlainCommand → List ℕ → Type 0
IsPlain (Alone _) args = args ≡ []
IsPlain (OfByte _) args = length args ≡ 1
IsPlain (OfWord _) args = length args ≡ 2
IsPlain Area args = IsArea args
IsPlain Cut args = IsOne args (λ m. has_feed m ≡ false) ⊎ IsTwo args (λ m. has_feed m ≡ true)
IsPlain Sensor args = length args ≡ 2
IsPlain RealTime args = IsOne args (λ n. has_second n ≡ false) ⊎ IsTwo args (λ n. has_second n ≡ true)
IsPlain (Unused count) args = length args ≡ count_of count

-- stops that rise, and a byte that doesn't, or the 32nd
pub record IsStops (args : List ℕ) : Type 0 where
  pub stops : List ℕ
  pub last : ℕ
  pub bytes : args ≡ stops ++ last ∷ []
  pub rise : rises_from 0 stops ≡ true
  pub few : length stops < 32
  pub ends : (last ≤ last_or 0 stops) ⊎ (length stops ≡ 31)

-- ESC * m nL nH, n columns
pub record IsColumns (args : List ℕ) : Type 0 where
  pub m : ℕ
  pub nl : ℕ
  pub nh : ℕ
  pub columns : List ℕ
  pub bytes : args ≡ m ∷ nl ∷ nh ∷ columns
  pub count : length columns ≡ column_bytes (column_mode_of m) * (nl + 256 * nh)

-- GS v 0 m xL xH yL yH, x*y bytes
pub record IsRaster (args : List ℕ) : Type 0 where
  pub zero : ℕ
  pub m : ℕ
  pub xl : ℕ
  pub xh : ℕ
  pub yl : ℕ
  pub yh : ℕ
  pub dots : List ℕ
  pub bytes : args ≡ zero ∷ m ∷ xl ∷ xh ∷ yl ∷ yh ∷ dots
  pub count : length dots ≡ (xl + 256 * xh) * (yl + 256 * yh)

-- GS k m, bytes, 0
pub record IsToZero (args : List ℕ) : Type 0 where
  pub kind : ℕ
  pub codes : List ℕ
  pub bytes : args ≡ kind ∷ (codes ++ 0 ∷ [])
  pub is_kind : is_kind_to_zero kind ≡ true
  pub no_zero : list_any (λ b. b == 0) codes ≡ false

-- GS k m n, n bytes
pub record IsCountedSymbol (args : List ℕ) : Type 0 where
  pub kind : ℕ
  pub codes : List ℕ
  pub bytes : args ≡ kind ∷ length codes ∷ codes
  pub not_to_zero : is_kind_to_zero kind ≡ false

-- GS ( X pL pH, p bytes
pub record IsFunction (args : List ℕ) : Type 0 where
  pub x : ℕ
  pub pl : ℕ
  pub ph : ℕ
  pub parameters : List ℕ
  pub bytes : args ≡ x ∷ pl ∷ ph ∷ parameters
  pub count : length parameters ≡ pl + 256 * ph

-- GS 8 X p1 p2 p3 p4, p bytes
pub record IsGraphics (args : List ℕ) : Type 0 where
  pub x : ℕ
  pub p1 : ℕ
  pub p2 : ℕ
  pub p3 : ℕ
  pub p4 : ℕ
  pub parameters : List ℕ
  pub bytes : args ≡ x ∷ p1 ∷ p2 ∷ p3 ∷ p4 ∷ parameters
  pub count : length parameters ≡ p1 + 256 * p2 + 65536 * (p3 + 256 * p4)

-- a command that is read past: a head, and the data that it counts
pub record IsReadPast (past : ReadPastCommand) (args : List ℕ) : Type 0 where
  pub head : List ℕ
  pub parameters : List ℕ
  pub bytes : args ≡ head ++ parameters
  pub head_count : length head ≡ past_len past head
  pub count : length parameters ≡ past_data past head

-- how many the arguments are
abbrev pub IsArguments : Command → List ℕ → Type 0
IsArguments (Plain plain) args = IsPlain plain args
IsArguments TabStops args = IsStops args
IsArguments Columns args = IsColumns args
IsArguments Raster args = IsRaster args
IsArguments Symbol args = IsToZero args ⊎ IsCountedSymbol args
IsArguments Function args = IsFunction args
IsArguments Graphics args = IsGraphics args
IsArguments (ReadPast past) args = IsReadPast past args

-- a lead, the byte after it, and the arguments, the first of which the table has
pub record IsCommand (reading : Reading) (bytes : List ℕ) : Type 0 where
  pub lead : Lead
  pub name : ℕ
  pub command : Command
  pub args : List ℕ
  pub named : command_of reading lead name ≡ Some command
  pub listed : is_listed reading command args ≡ true
  pub arguments : IsArguments command args
  pub bytes_are : bytes ≡ lead_byte lead ∷ name ∷ args

-- a byte that is no lead
pub record IsAlone (bytes : List ℕ) : Type 0 where
  pub byte : ℕ
  pub bytes_are : bytes ≡ byte ∷ []
  pub no_lead : lead_of byte ≡ None

-- the byte behind a lead is unknown, or the argument behind it
abbrev pub IsUnknown : Option Command → List ℕ → Type 0
IsUnknown None args = args ≡ []
IsUnknown (Some command) args = IsOne args (λ n. lists Whole command n ≡ false)

-- what the whole language reads past: a lead and an unknown byte, or an unknown argument behind them
pub record IsPassedOver (reading : Reading) (bytes : List ℕ) : Type 0 where
  pub whole : reading ≡ Whole
  pub lead : Lead
  pub name : ℕ
  pub args : List ℕ
  pub unknown : IsUnknown (command_of Whole lead name) args
  pub bytes_are : bytes ≡ lead_byte lead ∷ name ∷ args

abbrev pub IsRow : Reading → List ℕ → Type 0
IsRow reading bytes = IsAlone bytes ⊎ (IsCommand reading bytes ⊎ IsPassedOver reading bytes)
