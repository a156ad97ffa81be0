-- The symbol of bytes: its size and codewords, or why there is none.
use Rattle.std.specs.Prelude.{◌≡◌, ℕ, ◌+◌, ◌==◌, not, nat_le, length, List, Option, Some, None, is_none, unwrap_or, if◌then◌else◌}
use Rattle.vp_pdf417.specs.declared.size.Size.{Size}
use Rattle.vp_pdf417.specs.declared.size.Asked.{Asked}
use Rattle.vp_pdf417.specs.declared.symbol.Refusal.{Refusal}
use Rattle.vp_pdf417.specs.declared.symbol.Refusal.TheVariants.{Empty, Level, TooLong, Shape}
use Rattle.vp_pdf417.specs.Messages.{message}
use Rattle.vp_pdf417.specs.Sizes.{needed, size_for}
use Rattle.vp_pdf417.specs.Codewords.{codewords}

-- how many data codewords bytes take: one says how many there are
abbrev pub count_of : List ℕ → ℕ
count_of src = length (message src) + 1

-- why bytes have no symbol: there are none; there is no such level; they and the check are too many for any
-- symbol, or for the columns and rows that are asked for
abbrev pub refusal : Asked → List ℕ → Option Refusal
refusal asked src =
    if length src == 0 then Some Empty
    else if not (nat_le (unwrap_or asked.level 0) 8) then Some Level
    else if not (nat_le (needed asked (count_of src)) 928) then Some TooLong
    else if is_none (size_for asked (count_of src)) then Some Shape
    else None

-- a symbol in hand
pub record Pdf417Symbol : Type 0 where
  pub size : Size
  pub words : List ℕ

-- it is that of bytes
pub record Encodes (asked : Asked) (src : List ℕ) (symbol : Pdf417Symbol) : Type 0 where
  pub size_is : size_for asked (count_of src) ≡ Some symbol.size
  pub words_are : symbol.words ≡ codewords symbol.size (message src)
