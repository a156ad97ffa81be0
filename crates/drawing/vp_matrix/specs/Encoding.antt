-- The symbol of bytes for what is asked: why there is none, its columns and rows, and its modules.
use Rattle.std.specs.Prelude.{◌≡◌, ℕ, ◌&&◌, nat_lt, false, Bool, List, Option, Some, None, unwrap_or}
use Rattle.vp_dots.specs.declared.fault.Fault.{Fault}
use Rattle.vp_dots.specs.declared.fault.Fault.TheVariants.{Symbol, SymbolTooLong}
use Rattle.vp_dots.specs.declared.fault.Why.TheVariants as why
use Rattle.vp_data_matrix.specs.Encoding.{refusal as data_matrix_refusal, size_of, codewords_in, module_of as data_matrix_module}
use Rattle.vp_aztec.specs.declared.symbol.Refusal.{Refusal as AztecRefusal}
use Rattle.vp_aztec.specs.declared.symbol.Refusal.TheVariants as aztec
use Rattle.vp_aztec.specs.Encoding.{refusal as aztec_refusal, symbol_of}
use Rattle.vp_aztec.specs.Places.{side}
use Rattle.vp_aztec.specs.Modules.{module_of as aztec_module}
use Rattle.vp_pdf417.specs.declared.symbol.Refusal.{Refusal as Pdf417Refusal}
use Rattle.vp_pdf417.specs.declared.symbol.Refusal.TheVariants as pdf417
use Rattle.vp_pdf417.specs.declared.size.Size.{Size as Pdf417Size}
use Rattle.vp_pdf417.specs.declared.size.Asked.{Asked as Pdf417Asked}
use Rattle.vp_pdf417.specs.Encoding.{refusal as pdf417_refusal, count_of}
use Rattle.vp_pdf417.specs.Sizes.{size_for}
use Rattle.vp_pdf417.specs.Messages.{message}
use Rattle.vp_pdf417.specs.Codewords.{codewords}
use Rattle.vp_pdf417.specs.Modules.{across, module_of as pdf417_module}
use Rattle.vp_matrix.specs.declared.code.MatrixCode.{MatrixCode}
use Rattle.vp_matrix.specs.declared.code.MatrixCode.TheVariants.{DataMatrix, Aztec, Pdf417}
use Rattle.vp_matrix.specs.declared.matrix.Matrix.{Matrix}
use Rattle.vp_matrix.specs.Symbols.{columns, rows, is_dark}

-- a refusal of Aztec, as a fault: a percentage or a number of layers that doesn't exist is not supported
abbrev pub aztec_fault : AztecRefusal → Fault
aztec_fault aztec.Empty = Symbol why.Empty
aztec_fault aztec.Percent = Symbol why.Unsupported
aztec_fault aztec.Layers = Symbol why.Unsupported
aztec_fault aztec.TooLong = SymbolTooLong

-- a refusal of PDF417, as a fault: a level that doesn't exist is not supported
abbrev pub pdf417_fault : Pdf417Refusal → Fault
pdf417_fault pdf417.Empty = Symbol why.Empty
pdf417_fault pdf417.Level = Symbol why.Unsupported
pdf417_fault pdf417.TooLong = SymbolTooLong
pdf417_fault pdf417.Shape = SymbolTooLong

abbrev pub fault_of : {R : Type 0} → (R → Fault) → Option R → Option Fault
fault_of f None = None
fault_of f (Some refusal) = Some (f refusal)

-- why bytes have no symbol
unfoldable pub matrix_refusal : MatrixCode → List ℕ → Option Fault
matrix_refusal (DataMatrix lead shape) src = data_matrix_refusal lead shape src
matrix_refusal (Aztec asked) src = fault_of aztec_fault (aztec_refusal asked src)
matrix_refusal (Pdf417 asked) src = fault_of pdf417_fault (pdf417_refusal asked src)

-- the size of the PDF417 symbol of bytes
abbrev pub pdf417_size : Pdf417Asked → List ℕ → Pdf417Size
pdf417_size asked src =
    unwrap_or (size_for asked (count_of src)) (record { columns = 1; rows = 3; level = 0; compact = false })

-- modules in a row of the symbol of bytes
unfoldable pub columns_of : MatrixCode → List ℕ → ℕ
columns_of (DataMatrix lead shape) src = (size_of lead shape src).columns
columns_of (Aztec asked) src = side (symbol_of asked src).size
columns_of (Pdf417 asked) src = across (pdf417_size asked src)

-- its rows of modules
unfoldable pub rows_of : MatrixCode → List ℕ → ℕ
rows_of (DataMatrix lead shape) src = (size_of lead shape src).rows
rows_of (Aztec asked) src = side (symbol_of asked src).size
rows_of (Pdf417 asked) src = (pdf417_size asked src).rows

-- a module inside it is dark
abbrev pub module_in : MatrixCode → List ℕ → ℕ → ℕ → Bool
module_in (DataMatrix lead shape) src row column =
    let s = size_of lead shape src in
    data_matrix_module s (codewords_in s lead src) row column
module_in (Aztec asked) src row column =
    let s = symbol_of asked src in
    aztec_module s.size s.words s.mode column row
module_in (Pdf417 asked) src row column =
    let s = pdf417_size asked src in
    pdf417_module s (codewords s (message src)) row column

-- the module in a row and a column of the symbol of bytes is dark: none is outside
unfoldable pub module_of : MatrixCode → List ℕ → ℕ → ℕ → Bool
module_of code src row column =
    nat_lt row (rows_of code src) && (nat_lt column (columns_of code src) && module_in code src row column)

-- a symbol in hand is that of bytes
pub record IsMatrix (code : MatrixCode) (src : List ℕ) (symbol : Matrix) : Type 0 where
  pub columns_are : columns symbol ≡ columns_of code src
  pub rows_are : rows symbol ≡ rows_of code src
  pub modules_are : (row column : ℕ) → is_dark symbol row column ≡ module_of code src row column
