-- The numbers of what is answered.
use Rattle.std.specs.Prelude.{◌+◌, ℕ, Option, Some, None}
use Rattle.vp_glyph.specs.Reading as glyph
use Rattle.vp_glyph.specs.declared.sheet.SheetError.{SheetError}
use Rattle.vp_calls.specs.declared.answer.Refusal.{Refusal}
use Rattle.vp_calls.specs.declared.answer.Refusal.TheVariants.{Memory, Language, SheetA, SheetB}
use Rattle.vp_calls.specs.declared.answer.TheConstants.{NO_MEMORY, NO_LANGUAGE, SHEET_A, SHEET_B}

-- an offence's number behind the first; want of memory has none
abbrev pub numbered_from : ℕ → Option ℕ → ℕ
numbered_from first (Some number) = first + number
numbered_from first None = NO_MEMORY

abbrev pub number_of_sheet : ℕ → SheetError → ℕ
number_of_sheet first error = numbered_from first (glyph.number_of error)

abbrev pub number_of : Refusal → ℕ
number_of Memory = NO_MEMORY
number_of Language = NO_LANGUAGE
number_of (SheetA error) = number_of_sheet SHEET_A error
number_of (SheetB error) = number_of_sheet SHEET_B error
