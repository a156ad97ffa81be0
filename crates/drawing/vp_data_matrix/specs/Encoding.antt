-- The symbol of bytes: its size, codewords and modules, or why there is none.
use Rattle.std.specs.Prelude.{◌≡◌, ℕ, ◌<◌, ◌==◌, not, nat_lt, Bool, true, length, List, Option, Some, None, is_none, unwrap_or, slice_index_or, [], if◌then◌else◌}
use Rattle.std.specs.List.{list_all}
use Rattle.vp_dots.specs.Dots.{dot}
use Rattle.vp_dots.specs.declared.fault.Fault.{Fault}
use Rattle.vp_dots.specs.declared.fault.Fault.TheVariants.{Symbol, SymbolTooLong}
use Rattle.vp_dots.specs.declared.fault.Why.TheVariants.{Empty, Char}
use Rattle.vp_data_matrix.specs.declared.size.Size.{Size}
use Rattle.vp_data_matrix.specs.declared.size.Shape.{Shape}
use Rattle.vp_data_matrix.specs.declared.message.Lead.{Lead}
use Rattle.vp_data_matrix.specs.declared.message.Lead.TheVariants.{Plain, Gs1, Macro05, Macro06}
use Rattle.vp_data_matrix.specs.Sizes.{smallest, size_at}
use Rattle.vp_data_matrix.specs.Messages.{message, message_in}
use Rattle.vp_data_matrix.specs.Pads.{padded}
use Rattle.vp_data_matrix.specs.Blocks.{codewords}
use Rattle.vp_data_matrix.specs.Modules.{matrix_of, matrix_module, symbol_module}

-- the bytes that may stand behind a lead: GS1 has the characters of ISO/IEC 646 alone
abbrev pub may_follow : Lead → ℕ → Bool
may_follow Plain byte = true
may_follow Gs1 byte = nat_lt byte 128
may_follow Macro05 byte = true
may_follow Macro06 byte = true

-- why bytes have no symbol: there are none; one of them may not follow the lead; no size of the shape has
-- room
abbrev pub refusal : Lead → Shape → List ℕ → Option Fault
refusal lead shape src =
    if length src == 0 then Some (Symbol Empty)
    else if not (list_all (may_follow lead) src) then Some (Symbol Char)
    else if is_none (smallest shape (length (message true lead src))) then Some SymbolTooLong
    else None

abbrev pub size_of : Lead → Shape → List ℕ → Size
size_of lead shape src = size_at (unwrap_or (smallest shape (length (message true lead src))) 0)

-- all codewords of bytes in a size
unfoldable pub codewords_in : Size → Lead → List ℕ → List ℕ
codewords_in s lead src = codewords s (padded s.words (message_in s.words lead src))

-- a module of the symbol of codewords
unfoldable pub module_of : Size → List ℕ → ℕ → ℕ → Bool
module_of s all row column = symbol_module s (matrix_module (matrix_of s) all) row column

-- a symbol in hand: dot x of row y is its module there
pub record DataMatrixSymbol : Type 0 where
  pub size : Size
  pub rows : List (List ℕ)

abbrev pub dark : DataMatrixSymbol → ℕ → ℕ → Bool
dark symbol row column = dot (slice_index_or symbol.rows row []) column

-- it is that of bytes
pub record Encodes (lead : Lead) (shape : Shape) (src : List ℕ) (symbol : DataMatrixSymbol) : Type 0 where
  pub size_is : symbol.size ≡ size_of lead shape src
  pub modules_are : (row column : ℕ) → row < symbol.size.rows → column < symbol.size.columns
      → dark symbol row column ≡ module_of symbol.size (codewords_in symbol.size lead src) row column
