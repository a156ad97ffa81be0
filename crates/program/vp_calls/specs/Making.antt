-- Which printer is made, and why none is.
use Rattle.std.specs.Prelude.{◌≡◌, ◌⊎◌, ◌==◌, if◌then◌else◌, ℕ, List, [], ◌∷◌, Option, Some, None, Result, Ok, Err, alloc_error}
use Rattle.vp_glyph.specs.Reading.{sheet_of}
use Rattle.vp_glyph.specs.Sheets.{Glyphs}
use Rattle.vp_glyph.specs.declared.sheet.SheetError.{SheetError}
use Rattle.vp_glyph.specs.declared.sheet.SheetError.TheVariants.{Memory as SheetMemory}
use Rattle.vp_language.specs.declared.language.Language.{Language}
use Rattle.vp_language.specs.declared.language.Language.TheVariants.{Receipt, Receipt58, Label}
use Rattle.vp_language.specs.declared.language.Language.TheVariants.{WholeReceipt, WholeReceipt58, WholeLabel}
use Rattle.vp_engine.specs.Setups.{Setup, setup_of, Listing, ListingWithOffsets}
use Rattle.vp_engine.specs.Stands.{Engine, Stands}
use Rattle.vp_calls.specs.Answers.{number_of}
use Rattle.vp_calls.specs.declared.answer.TheConstants.{OK, NO_LANGUAGE, NO_MEMORY}
use Rattle.vp_calls.specs.declared.answer.Refusal.{Refusal}
use Rattle.vp_calls.specs.declared.answer.Refusal.TheVariants as refusal

abbrev pub language_of : ℕ → Option Language
language_of number =
    if number == 0 then Some Receipt else
    if number == 1 then Some Receipt58 else
    if number == 2 then Some Label else
    if number == 3 then Some WholeReceipt else
    if number == 4 then Some WholeReceipt58 else
    if number == 5 then Some WholeLabel else
    None

abbrev pub some_sheet : Result Glyphs SheetError → Result (Option Glyphs) SheetError
some_sheet (Ok sheet) = Ok (Some sheet)
some_sheet (Err error) = Err error

-- no bytes are no sheet
abbrev pub sheet_in : List ℕ → ℕ → ℕ → Result (Option Glyphs) SheetError
sheet_in [] w h = Ok None
sheet_in (b ∷ bytes) w h = some_sheet (sheet_of (b ∷ bytes) w h)

-- a printer of the language with the sheets of these bytes, which took and put out nothing
pub record IsMade (number : ℕ) (a b : List ℕ) (p : Engine) : Type 0 where
  pub language : Language
  pub sheet_a : Option Glyphs
  pub sheet_b : Option Glyphs
  pub language_is : language_of number ≡ Some language
  pub sheet_a_is : sheet_in a 12 24 ≡ Ok sheet_a
  pub sheet_b_is : sheet_in b 9 17 ≡ Ok sheet_b
  pub stands : Stands (setup_of language (record { a = sheet_a; b = sheet_b })) p [] []

-- a sheet's first offence, or want of memory for one that has none
abbrev pub IsSheet : Result (Option Glyphs) SheetError → Type 0
IsSheet read = (sheet : Option Glyphs) × (read ≡ Ok sheet)

abbrev pub IsOffence : Result (Option Glyphs) SheetError → SheetError → Type 0
IsOffence read error = (read ≡ Err error) ⊎ ((error ≡ SheetMemory alloc_error) × IsSheet read)

abbrev pub IsLanguage : ℕ → Type 0
IsLanguage number = (language : Language) × (language_of number ≡ Some language)

-- Why there is none, the first in this order: no such language, font A's sheet, font B's sheet. Memory may be
-- refused where all three are right.
abbrev pub IsRefused : ℕ → List ℕ → List ℕ → Refusal → Type 0
IsRefused number a b refusal.Language = language_of number ≡ None
IsRefused number a b (refusal.SheetA error) = IsLanguage number × IsOffence (sheet_in a 12 24) error
IsRefused number a b (refusal.SheetB error) =
    IsLanguage number × IsSheet (sheet_in a 12 24) × IsOffence (sheet_in b 9 17) error
IsRefused number a b refusal.Memory =
    IsLanguage number × IsSheet (sheet_in a 12 24) × IsSheet (sheet_in b 9 17)

-- What `vp_new` leaves behind the handle, and its answer: a printer and OK, or none and why.
abbrev pub IsAnswered : ℕ → List ℕ → List ℕ → Option Engine → ℕ → Type 0
IsAnswered number a b (Some p) answer = (answer ≡ OK) × IsMade number a b p
IsAnswered number a b None answer = (why : Refusal) × (answer ≡ number_of why) × IsRefused number a b why

abbrev pub listing_setup : ℕ → Language → Setup
listing_setup with_offsets language =
    if with_offsets == 0 then Listing language else ListingWithOffsets language

-- a listing of the language, with places or without, which took and put out nothing
pub record IsListing (number with_offsets : ℕ) (p : Engine) : Type 0 where
  pub language : Language
  pub language_is : language_of number ≡ Some language
  pub stands : Stands (listing_setup with_offsets language) p [] []

-- What `vp_new_listing` leaves behind the handle, and its answer.
abbrev pub IsListed : ℕ → ℕ → Option Engine → ℕ → Type 0
IsListed number with_offsets (Some p) answer =
    (answer ≡ OK) × IsListing number with_offsets p
IsListed number with_offsets None answer =
    ((answer ≡ NO_LANGUAGE) × (language_of number ≡ None)) ⊎ (answer ≡ NO_MEMORY)
