-- The first two bytes of a command, by the command.
use Rattle.std.proofs.Common.{◌≡◌, ℕ, true, Option, Some, None, List, ◌∷◌, arith}
use Rattle.std.proofs.lemmas.Grind.{common_steps}
use Rattle.std.proofs.lemmas.Bool.Decides.{nat_tests}
use Rattle.std.proofs.lemmas.Bool.{eqb-true}
use Rattle.vp_esc.specs.declared.reading.Reading.{Reading}
use Rattle.vp_esc.specs.declared.reading.Reading.TheVariants.{Profile, Whole}
use Rattle.vp_esc.specs.declared.item.Lead.{Lead}
use Rattle.vp_esc.specs.declared.item.Lead.TheVariants.{Esc, Gs, Fs, Dle}
use Rattle.vp_esc.specs.declared.command.Command.{Command}
use Rattle.vp_esc.specs.declared.command.Command.TheVariants.{Plain, TabStops, Columns, Raster, Symbol, Function, Graphics, ReadPast}
use Rattle.vp_esc.specs.declared.command.ReadPast.TheVariants as past
use Rattle.vp_esc.specs.declared.command.Plain.TheVariants.{Alone, OfByte, OfWord, Area, Cut}
use Rattle.vp_esc.specs.declared.command.Alone.TheVariants as alone
use Rattle.vp_esc.specs.declared.command.OfByte.TheVariants as of_byte
use Rattle.vp_esc.specs.declared.command.OfWord.TheVariants as of_word
use Rattle.vp_esc.specs.Listings.{may_skip}
use Rattle.vp_esc.specs.Command.{esc_command, gs_command, dle_added, esc_added, gs_added, fs_added, profile_command, added_command, or_else, command_of}

-- this lead and this byte
abbrev pub Is : Lead → ℕ → Lead → ℕ → Type 0
Is l n lead name = (lead ≡ l) × (name ≡ n)

-- data behind these may stand in no line
abbrev pub SkipsData : Lead → ℕ → Type 0
SkipsData lead name = (args : List ℕ) → may_skip lead (name ∷ args) ≡ true

-- the lead and the byte behind it of the commands with an effect, and of those with data
abbrev pub IsNamed : Command → Lead → ℕ → Type 0
IsNamed (Plain (Alone alone.PrintPage)) = Is Esc 0x0C
IsNamed (Plain (Alone alone.DefaultLineSpacing)) = Is Esc 0x32
IsNamed (Plain (Alone alone.Initialize)) = Is Esc 0x40
IsNamed (Plain (Alone alone.PageMode)) = Is Esc 0x4C
IsNamed (Plain (Alone alone.StandardMode)) = Is Esc 0x53
IsNamed (Plain (Alone alone.CutLeavingOnePoint)) = Is Esc 0x69
IsNamed (Plain (Alone alone.CutLeavingThreePoints)) = Is Esc 0x6D
IsNamed (Plain (OfByte of_byte.RightSpacing)) = Is Esc 0x20
IsNamed (Plain (OfByte of_byte.PrintMode)) = Is Esc 0x21
IsNamed (Plain (OfByte of_byte.Underline)) = Is Esc 0x2D
IsNamed (Plain (OfByte of_byte.LineSpacing)) = Is Esc 0x33
IsNamed (Plain (OfByte of_byte.Emphasized)) = Is Esc 0x45
IsNamed (Plain (OfByte of_byte.DoubleStrike)) = Is Esc 0x47
IsNamed (Plain (OfByte of_byte.FeedDots)) = Is Esc 0x4A
IsNamed (Plain (OfByte of_byte.Font)) = Is Esc 0x4D
IsNamed (Plain (OfByte of_byte.Direction)) = Is Esc 0x54
IsNamed (Plain (OfByte of_byte.Justify)) = Is Esc 0x61
IsNamed (Plain (OfByte of_byte.FeedLines)) = Is Esc 0x64
IsNamed (Plain (OfByte of_byte.Magnify)) = Is Gs 0x21
IsNamed (Plain (OfByte of_byte.Inverse)) = Is Gs 0x42
IsNamed (Plain (OfByte of_byte.HriPosition)) = Is Gs 0x48
IsNamed (Plain (OfByte of_byte.HriFont)) = Is Gs 0x66
IsNamed (Plain (OfByte of_byte.BarHeight)) = Is Gs 0x68
IsNamed (Plain (OfByte of_byte.BarModule)) = Is Gs 0x77
IsNamed (Plain (OfWord of_word.Position)) = Is Esc 0x24
IsNamed (Plain (OfWord of_word.MovePosition)) = Is Esc 0x5C
IsNamed (Plain (OfWord of_word.VerticalPosition)) = Is Gs 0x24
IsNamed (Plain (OfWord of_word.MoveVerticalPosition)) = Is Gs 0x5C
IsNamed (Plain (OfWord of_word.LeftMargin)) = Is Gs 0x4C
IsNamed (Plain (OfWord of_word.AreaWidth)) = Is Gs 0x57
IsNamed (Plain Area) = Is Esc 0x57
IsNamed (Plain Cut) = Is Gs 0x56
IsNamed (Plain _) = λ lead name. Unit {0}
IsNamed TabStops = Is Esc 0x44
IsNamed Columns = Is Esc 0x2A
IsNamed Raster = Is Gs 0x76
IsNamed Symbol = Is Gs 0x6B
IsNamed Function = Is Gs 0x28
IsNamed Graphics = Is Gs 0x38
IsNamed (ReadPast past.Family) = SkipsData
IsNamed (ReadPast past.StoredImage) = SkipsData
IsNamed (ReadPast past.ColumnImage) = SkipsData
IsNamed (ReadPast past.TwoByteCell) = SkipsData
IsNamed (ReadPast past.UserBytes) = SkipsData
IsNamed (ReadPast _) = λ lead name. Unit {0}

none : {P : Type 0} {k : Command} → ◌≡◌ {A = Option Command} None (Some k) → P
none e = cc

esc_command_named : (b : ℕ) (k : Command) → esc_command b ≡ Some k → IsNamed k Esc b
esc_command_named b k e = grind (arith, common_steps)

gs_command_named : (b : ℕ) (k : Command) → gs_command b ≡ Some k → IsNamed k Gs b
gs_command_named b k e = grind (arith, nat_tests, eqb-true, none)

profile_named : (lead : Lead) (b : ℕ) (k : Command) → profile_command lead b ≡ Some k → IsNamed k lead b
profile_named Esc b k e = esc_command_named b k e
profile_named Gs b k e = gs_command_named b k e
profile_named lead b k e = grind (arith, none, nat_tests)

esc_added_named : (b : ℕ) (k : Command) → esc_added b ≡ Some k → IsNamed k Esc b
esc_added_named b k e = grind (arith, nat_tests, eqb-true, none)

gs_added_named : (b : ℕ) (k : Command) → gs_added b ≡ Some k → IsNamed k Gs b
gs_added_named b k e = grind (arith, nat_tests, eqb-true, none)

fs_added_named : (b : ℕ) (k : Command) → fs_added b ≡ Some k → IsNamed k Fs b
fs_added_named b k e = grind (arith, nat_tests, eqb-true, none)

dle_added_named : (b : ℕ) (k : Command) → dle_added b ≡ Some k → IsNamed k Dle b
dle_added_named b k e = grind (arith, nat_tests, eqb-true, none)

added_named : (lead : Lead) (b : ℕ) (k : Command) → added_command lead b ≡ Some k → IsNamed k lead b
added_named Esc b k e = esc_added_named b k e
added_named Gs b k e = gs_added_named b k e
added_named Fs b k e = fs_added_named b k e
added_named Dle b k e = dle_added_named b k e

either : {P : Type 0} (o p : Option Command) (k : Command) → (o ≡ Some k → P) → (p ≡ Some k → P) → or_else o p ≡ Some k → P
either None p k f g e = g e
either (Some c) p k f g e = f e

-- each command is named so
pub named_so : (reading : Reading) (lead : Lead) (name : ℕ) (k : Command) → command_of reading lead name ≡ Some k → IsNamed k lead name
unfolding command_of
named_so Profile lead b k e = profile_named lead b k e
named_so Whole lead b k e = either (profile_command lead b) (added_command lead b) k (profile_named lead b k) (added_named lead b k) e
