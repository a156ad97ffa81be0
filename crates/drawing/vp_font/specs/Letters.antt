-- What is told of a letter before its rows (technical note 5005, 3.2).
use Rattle.std.specs.Prelude.{ℕ, ◌==◌, ◌||◌, not, nat_lt, Bool, true, List, Option, Some, None, Result, Ok, Err, if◌then◌else◌}
use Rattle.vp_font.specs.declared.fault.Fault.{Fault}
use Rattle.vp_font.specs.declared.fault.Fault.TheVariants as fault
use Rattle.vp_font.specs.declared.keyword.Keyword.{Keyword}
use Rattle.vp_font.specs.declared.keyword.Keyword.TheVariants as about
use Rattle.vp_font.specs.declared.letter.Shape.{Shape}
use Rattle.vp_font.specs.declared.parts.Code.{Code}
use Rattle.vp_font.specs.declared.parts.Code.TheVariants as code
use Rattle.vp_font.specs.declared.parts.Parts.{Parts}
use Rattle.vp_font.specs.declared.parts.Begun.{Begun}
use Rattle.vp_font.specs.declared.parts.Begun.TheVariants as begins
use Rattle.vp_font.specs.Words.{number_at}
use Rattle.vp_font.specs.Ranges.{◌>>=◌, whole_at, shape_at}

-- nothing is told yet
abbrev pub no_parts : Parts
no_parts = record { code = None; advance = None; thousandths = None; shape = None }

-- codes rise from letter to letter
abbrev pub rises : Option ℕ → ℕ → Bool
rises None code = true
rises (Some last) code = nat_lt last code

-- ENCODING: -1 for a letter without a code, or a code point above the last one
unfoldable pub code_at : Option ℕ → List ℕ → Result Code Fault
code_at last line = number_at 1 line >>= λ n.
    if n.below then (if n.size == 1 then Ok code.None else Err fault.Code)
    else if nat_lt 1114111 n.size || not (rises last n.size) then Err fault.Code
    else Ok (code.Point n.size)

-- a line that is about this; of lines that say the same thing the last one holds
unfoldable pub with_part : Parts → Option ℕ → Keyword → List ℕ → Result Parts Fault
with_part parts last about.Encoding line =
    code_at last line >>= λ c. Ok (record parts { code = Some c })
with_part parts last about.Scalable line =
    whole_at 1 65535 fault.Number line >>= λ n. Ok (record parts { thousandths = Some n })
with_part parts last about.Device line =
    whole_at 1 2048 fault.Advance line >>= λ n. Ok (record parts { advance = Some n })
with_part parts last about.Box line =
    shape_at line >>= λ shape. Ok (record parts { shape = Some shape })
with_part parts last about.StartChar line = Err fault.Incomplete
with_part parts last about.EndChar line = Err fault.Incomplete
with_part parts last about.EndFont line = Err fault.Incomplete
with_part parts last _ line = Ok parts

-- what is to be told before BITMAP
abbrev pub needed : {A : Type 0} → Option A → Result A Fault
needed None = Err fault.Incomplete
needed (Some x) = Ok x

abbrev pub complete_by : Code → ℕ → Option ℕ → Shape → Begun
complete_by code.None advance thousandths shape = begins.Passed shape
complete_by (code.Point c) advance thousandths shape =
    begins.Letter (record { code = c; advance = advance; thousandths = thousandths; shape = shape })

-- BITMAP
unfoldable pub complete : Parts → Result Begun Fault
complete parts = do
  c ← needed parts.code
  advance ← needed parts.advance
  shape ← needed parts.shape
  Ok (complete_by c advance parts.thousandths shape)
