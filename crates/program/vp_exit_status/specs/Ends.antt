-- Why a run ends early, by what a library answered.
use Rattle.std.specs.Prelude.{ℕ, Option, Some, None, List}
use Rattle.std.specs.Borrow.{Bor}
use Rattle.vp_glyph.specs.declared.sheet.SheetError.{SheetError}
use Rattle.vp_join.specs.declared.fault.JoinFault.{JoinFault}
use Rattle.vp_join.specs.declared.fault.JoinFault.TheVariants as join
use Rattle.vp_exit_status.specs.declared.stop.Stop.{Stop}
use Rattle.vp_exit_status.specs.declared.stop.Stop.TheVariants.{Join, Sheet, Read, Write, TooManyTurns, Memory}

-- a file that is no sheet has the number of its offence; want of memory has none
abbrev pub end_of_sheet : Bor (List ℕ) → SheetError → Option ℕ → Stop
end_of_sheet name error (Some number) = Sheet name number error
end_of_sheet name error None = Memory

-- what is to be joined is wrong, or couldn't be read, written or ended
abbrev pub end_of_join : JoinFault → Stop
end_of_join join.Read = Read
end_of_join join.Write = Write
end_of_join join.TooManyTurns = TooManyTurns
end_of_join join.Header = Join join.Header
end_of_join join.Width = Join join.Width
end_of_join join.TooTall = Join join.TooTall
end_of_join join.Short = Join join.Short
end_of_join join.TooWide = Join join.TooWide
end_of_join join.Differ = Join join.Differ
