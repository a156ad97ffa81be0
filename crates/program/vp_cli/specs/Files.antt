-- What is read of the files that are named.
use Rattle.std.specs.Prelude.{◌≡◌, ◌⊎◌, ℕ, List, take, Option, None, Some, IfSome, Result, Ok, Err}
use Rattle.std.specs.Borrow.{Bor}
use Rattle.vp_glyph.specs.Reading.{number_of, sheet_of}
use Rattle.vp_glyph.specs.Sheets.{Glyphs, Sheets}
use Rattle.vp_glyph.specs.declared.sheet.SheetError.{SheetError}
use Rattle.vp_command_line.specs.declared.order.Fonts.{Fonts}
use Rattle.vp_exit_status.specs.declared.stop.Stop.{Stop}
use Rattle.vp_exit_status.specs.declared.stop.Stop.TheVariants.{CannotOpen, Memory, Read, Sheet}

-- of a sheet's file no more bytes than these are read
abbrev pub most : ℕ
most = 1048576

-- which files a name may open, and the bytes that a file has, where they are known
module _ {File : Type 0} (names : List ℕ → File → Type 0) (remaining : File → Option (List ℕ)) where
  -- a file of this name was opened, and had these bytes
  pub record HasBytes (name bytes : List ℕ) : Type 0 where
    pub file : File
    pub named : names name file
    pub bytes_are : IfSome (remaining file) (λ text. bytes ≡ take most text)

  -- its bytes are no sheet, and this is the first offence
  pub record IsNoSheet (name : Bor (List ℕ)) (w h : ℕ) (stop : Stop) : Type 0 where
    pub bytes : List ℕ
    pub has : HasBytes name.now bytes
    pub error : SheetError
    pub number : ℕ
    pub is_error : sheet_of bytes w h ≡ Err error
    pub is_number : number_of error ≡ Some number
    pub is : stop ≡ Sheet name number error

  -- the sheet of the file of this name, with cells of w by h dots, or why there is none
  abbrev pub IsSheetOf : Bor (List ℕ) → ℕ → ℕ → Result (Option Glyphs) Stop → Type 0
  IsSheetOf name w h (Ok (Some sheet)) =
      (bytes : List ℕ) × HasBytes name.now bytes × (sheet_of bytes w h ≡ Ok sheet)
  IsSheetOf name w h (Ok None) = ⊥
  IsSheetOf name w h (Err stop) =
      ((stop ≡ CannotOpen name) ⊎ ((stop ≡ Read) ⊎ (stop ≡ Memory))) ⊎ IsNoSheet name w h stop

  -- none where no file is named
  abbrev pub IsSheet : Option (Bor (List ℕ)) → ℕ → ℕ → Result (Option Glyphs) Stop → Type 0
  IsSheet None w h result = result ≡ Ok None
  IsSheet (Some name) w h result = IsSheetOf name w h result

  -- the sheets of the two fonts, A's of 12 by 24 dots and B's of 9 by 17
  abbrev pub AreSheets : Fonts → Result Sheets Stop → Type 0
  AreSheets fonts (Ok sheets) = IsSheet fonts.a 12 24 (Ok sheets.a) × IsSheet fonts.b 9 17 (Ok sheets.b)
  AreSheets fonts (Err stop) = IsSheet fonts.a 12 24 (Err stop)
      ⊎ ((a : Option Glyphs) × IsSheet fonts.a 12 24 (Ok a) × IsSheet fonts.b 9 17 (Err stop))
