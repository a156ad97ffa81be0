-- Two-dimensional symbols as the format keeps them, or why the data have none or their modules no room (ZPL
-- II, ^BX, ^B7 and ^BO).
use Rattle.std.specs.Prelude.{ℕ, ◌+◌, ◌*◌, ◌/◌, Bool, true, false, nat_lt, List, length, Option, Some, None, unwrap_or, max, Result, Ok, Err, if◌then◌else◌}
use Rattle.vp_dots.specs.Images.{Image, image_rows, row_bytes}
use Rattle.vp_dots.specs.declared.fault.Fault.{Fault}
use Rattle.vp_dots.specs.declared.fault.Fault.TheVariants.{StoreFull, SymbolTooLong}
use Rattle.vp_data_matrix.specs.declared.message.Lead.{Lead}
use Rattle.vp_data_matrix.specs.declared.message.Lead.TheVariants.{Plain, Gs1}
use Rattle.vp_matrix.specs.declared.code.MatrixCode.{MatrixCode}
use Rattle.vp_matrix.specs.declared.code.MatrixCode.TheVariants as codes
use Rattle.vp_matrix.specs.Encoding.{matrix_refusal, columns_of, rows_of, module_of}
use Rattle.vp_escapes.specs.Escapes.{is_gs1, unescaped}
use Rattle.vp_escapes.specs.declared.bytes.TheConstants.{MOST}
use Rattle.vp_format.specs.declared.field.Span.{Span}
use Rattle.vp_format.specs.declared.format.TheConstants.{STORED}
use Rattle.vp_format.specs.declared.field.MatrixSymbol.{MatrixSymbol}
use Rattle.vp_format.specs.declared.field.Content.{Content}
use Rattle.vp_format.specs.declared.field.Content.TheVariants as contents
use Rattle.vp_field.specs.Contents.{bytes_of}
use Rattle.vp_label_settings.specs.declared.settings.BarDefaults.{BarDefaults}
use Rattle.vp_label_settings.specs.declared.choice.MatrixAsked.{MatrixAsked}
use Rattle.vp_label_settings.specs.declared.choice.MatrixAsked.TheVariants.{DataMatrix, Pdf417, Aztec}
use Rattle.vp_label_settings.specs.Ranges.{nearest}

-- the bytes that data stand for
abbrev pub plain_data : Option ℕ → List ℕ → List ℕ
plain_data None bytes = bytes
plain_data (Some sign) bytes = unescaped sign bytes

-- data with escapes stand for no more bytes than a symbol holds
abbrev pub are_too_many : Option ℕ → List ℕ → Bool
are_too_many None bytes = false
are_too_many (Some sign) bytes = nat_lt MOST (length (unescaped sign bytes))

-- why data have no symbol
unfoldable pub data_refusal : MatrixCode → Option ℕ → List ℕ → Option Fault
data_refusal code escape bytes =
    if are_too_many escape bytes then Some SymbolTooLong else matrix_refusal code (plain_data escape bytes)

-- ^BX: FNC1 in front of the data leads GS1 element strings
abbrev pub lead_of : ℕ → List ℕ → Lead
lead_of sign bytes = if is_gs1 sign bytes then Gs1 else Plain

-- which symbol data are drawn as
abbrev pub code_of : MatrixAsked → List ℕ → MatrixCode
code_of (DataMatrix side shape sign) bytes = codes.DataMatrix (lead_of sign bytes) shape
code_of (Pdf417 height asked) bytes = codes.Pdf417 asked
code_of (Aztec side asked) bytes = codes.Aztec asked

-- ^BX alone has escapes
abbrev pub escape_of : MatrixAsked → Option ℕ
escape_of (DataMatrix side shape sign) = Some sign
escape_of (Pdf417 height asked) = None
escape_of (Aztec side asked) = None

-- where nothing is said of modules, ^BY's height is that of all rows together
abbrev pub by_rows : ℕ → BarDefaults → ℕ → ℕ
by_rows most d rows = nearest 1 most (d.height / max 1 rows)

-- the width of a module in dots
abbrev pub wide_of : BarDefaults → ℕ → MatrixAsked → ℕ
wide_of d rows (DataMatrix side shape sign) = unwrap_or side (by_rows 64 d rows)
wide_of d rows (Pdf417 height asked) = d.module_dots
wide_of d rows (Aztec side asked) = side

-- ^B7: a row is so many modules high
abbrev pub row_high : BarDefaults → ℕ → Option ℕ → ℕ
row_high d rows None = by_rows 1000 d rows
row_high d rows (Some modules) = nearest 1 1000 (d.module_dots * modules)

-- and its height: those of matrix symbols are squares
abbrev pub high_of : BarDefaults → ℕ → MatrixAsked → ℕ
high_of d rows (Pdf417 height asked) = row_high d rows height
high_of d rows (DataMatrix side shape sign) = wide_of d rows (DataMatrix side shape sign)
high_of d rows (Aztec side asked) = side

-- the symbol of bytes as an image, of a dot for each module
abbrev pub image_of : MatrixCode → List ℕ → Image
image_of code src = record {
  width = columns_of code src;
  height = rows_of code src;
  is_black = λ x y. module_of code src y x;
}

-- the bytes of its rows, and how many they are
unfoldable pub modules_of : MatrixCode → List ℕ → List ℕ
modules_of code src = image_rows (image_of code src)

abbrev pub modules_len : MatrixCode → List ℕ → ℕ
modules_len code src = rows_of code src * row_bytes (columns_of code src)

-- the symbol of bytes, whose modules are stored from a place on
abbrev pub matrix_symbol : BarDefaults → MatrixAsked → ℕ → MatrixCode → List ℕ → MatrixSymbol
matrix_symbol d asked start code src = record {
  modules = record { start = start; len = modules_len code src };
  columns = columns_of code src;
  rows = rows_of code src;
  wide = wide_of d (rows_of code src) asked;
  high = high_of d (rows_of code src) asked;
}

abbrev pub matrix_unless : Option Fault → Bool → MatrixSymbol → Result Content Fault
matrix_unless (Some why) is_full symbol = Err why
matrix_unless None true symbol = Err StoreFull
matrix_unless None false symbol = Ok (contents.Matrix symbol)

-- the modules find no room behind what is stored
abbrev pub have_no_room : List ℕ → MatrixCode → List ℕ → Bool
have_no_room stored code src = nat_lt STORED (length stored + modules_len code src)

-- a symbol, unless its data have none, or its modules no room: they are stored behind all that is
abbrev pub matrix_in : List ℕ → BarDefaults → MatrixAsked → MatrixCode → List ℕ → Result Content Fault
matrix_in stored d asked code src =
    matrix_unless (data_refusal code (escape_of asked) src)
    (have_no_room stored code (plain_data (escape_of asked) src))
    (matrix_symbol d asked (length stored) code (plain_data (escape_of asked) src))

abbrev pub matrix_of : List ℕ → BarDefaults → MatrixAsked → Span → Result Content Fault
matrix_of stored d asked bytes =
    matrix_in stored d asked (code_of asked (bytes_of stored bytes)) (bytes_of stored bytes)

-- the modules that closing it stores
abbrev pub matrix_made : List ℕ → MatrixAsked → Span → List ℕ
matrix_made stored asked bytes =
    modules_of (code_of asked (bytes_of stored bytes)) (plain_data (escape_of asked) (bytes_of stored bytes))
