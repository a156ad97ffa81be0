-- The codes of a picture (ZPL II, ^GF), as a list of symbols.
use Rattle.std.specs.Prelude.{ℕ, ◌+◌, ◌-◌, ◌*◌, ◌/◌, ◌%◌, max, nat_le, Bool, ◌==◌, ◌&&◌, List, [], ◌∷◌, if◌then◌else◌}
use Prim.Native.Char.{code}
use Rattle.vp_format.specs.declared.codes.Code.{Code}
use Rattle.vp_format.specs.declared.codes.Code.TheVariants.{Digit, Count, Fill, Above, Other}
use Rattle.vp_format.specs.declared.codes.Symbol.{Symbol}
use Rattle.vp_format.specs.declared.codes.Symbol.TheVariants.{Digits, ToEnd, Again, Refused}
use Rattle.vp_format.specs.declared.rows.Coding.{Coding}
use Rattle.vp_format.specs.declared.rows.Coding.TheVariants.{RunLength, Binary}

abbrev between : ℕ → ℕ → ℕ → Bool
between low b high = nat_le low b && nat_le b high

-- a hex digit in either case, a count G to Y of 1 to 19 or g to z of 20, 40, .. 400, or one of `,` `!` `:`
unfoldable pub code_of : ℕ → Code
code_of b =
    if between (code "0") b (code "9") then Digit (b - code "0")
    else if between (code "A") b (code "F") then Digit (b - 0x37)
    else if between (code "a") b (code "f") then Digit (b - 0x57)
    else if between (code "G") b (code "Y") then Count (b - code "F")
    else if between (code "g") b (code "z") then Count (20 * (b - code "f"))
    else if b == code "," then Fill 0
    else if b == code "!" then Fill 15
    else if b == code ":" then Above
    else Other

-- a symbol, and how many bytes of the codes spell it
pub record Spelled : Type 0 where
  pub symbol : Symbol
  pub bytes : ℕ

abbrev pub spelled : Symbol → ℕ → Spelled
spelled s k = record { symbol = s; bytes = k }

-- a symbol behind counts that add up to n: only a digit may stand behind any
abbrev pub alone : ℕ → Symbol → Symbol
alone n s = if n == 0 then s else Refused

-- the symbols from a code on, behind k counts that add up to n, where the later codes give theirs by how many
-- counts stand before them and what these add up to
abbrev pub joined : Code → ℕ → ℕ → (ℕ → ℕ → List Spelled) → List Spelled
joined (Digit v) n k later = spelled (Digits (max n 1) v) (k + 1) ∷ later 0 0
joined (Count m) n k later = later (n + m) (k + 1)
joined (Fill v) n k later = spelled (alone n (ToEnd v)) (k + 1) ∷ later 0 0
joined Above n k later = spelled (alone n Again) (k + 1) ∷ later 0 0
joined Other n k later = spelled Refused (k + 1) ∷ later 0 0

-- the symbols of codes behind k counts that add up to n: at the end a count without its digit is refused
abbrev pub symbols_behind : List ℕ → ℕ → ℕ → List Spelled
symbols_behind [] n k = if n == 0 then [] else spelled Refused k ∷ []
symbols_behind (b ∷ codes) n k = joined (code_of b) n k (symbols_behind codes)

-- bytes as they are: each one two digits
abbrev pub binary_symbols : List ℕ → List Spelled
binary_symbols [] = []
binary_symbols (b ∷ codes) =
    spelled (Digits 1 (b / 16)) 1 ∷ spelled (Digits 1 (b % 16)) 0 ∷ binary_symbols codes

-- the symbols of codes
abbrev pub symbols : Coding → List ℕ → List Spelled
symbols RunLength codes = symbols_behind codes 0 0
symbols Binary codes = binary_symbols codes
