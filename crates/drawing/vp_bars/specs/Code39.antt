-- Code 39 (ISO/IEC 16388).
use Rattle.std.specs.Prelude.{ℕ, ◌-◌, ◌%◌, ◌==◌, Bool, true, false, ◌&&◌, List, [], ◌∷◌, ◌++◌, length, take, drop, sum, codes, nat_le, slice_index, Option, None, Some, Result, Ok, Err, position, if◌then◌else◌}
use Prim.Native.Char.{code}
use Rattle.vp_dots.specs.declared.fault.Fault.{Fault}
use Rattle.vp_dots.specs.declared.fault.Fault.TheVariants.{Symbol}
use Rattle.vp_dots.specs.declared.fault.Why.TheVariants.{Empty, Char}
use Rattle.vp_bars.specs.declared.symbology.Symbology.TheVariants as symbologies
use Rattle.vp_bars.specs.Symbols.{Linear, within_length}

-- the 43 characters in the order of their values (table 1)
abbrev pub alphabet : List ℕ
alphabet = codes "0123456789ABCDEFGHIJKLMNOPQRSTUVWXYZ-. $/+%"

-- the value of a character
abbrev pub value_of : ℕ → Option ℕ
value_of c = position (λ a. a == c) alphabet

-- one value before others, of which none may be missing
abbrev pub with_value : Option ℕ → Option (List ℕ) → Option (List ℕ)
with_value None vs = None
with_value (Some v) None = None
with_value (Some v) (Some vs) = Some (v ∷ vs)

-- the values of all characters, none where a byte is no character
abbrev pub values_of : List ℕ → Option (List ℕ)
values_of [] = Some []
values_of (c ∷ cs) = with_value (value_of c) (values_of cs)

-- the check character is the sum of the values modulo 43 (annex A)
abbrev pub code39_check : List ℕ → ℕ
code39_check vs = sum vs % 43

abbrev pub checked : Bool → List ℕ → List ℕ
checked false vs = vs
checked true vs = vs ++ code39_check vs ∷ []

-- the value of *, which starts and stops a symbol
abbrev pub star : ℕ
star = 43

-- data without a * at each end, which are the start and the stop already
unfoldable pub unstarred : List ℕ → List ℕ
unstarred src = if nat_le 2 (length src) && slice_index src 0 == code "*"
    && slice_index src (length src - 1) == code "*" then take (length src - 2) (drop 1 src) else src

-- the values of a symbol: start, data, check if there is one, stop
abbrev pub code39_symbol : Bool → Option (List ℕ) → Result Linear Fault
code39_symbol check None = Err (Symbol Char)
code39_symbol check (Some vs) = Ok (record {
  symbology = symbologies.Code39;
  values = star ∷ checked check vs ++ star ∷ [];
})

abbrev pub symbol_for : Bool → List ℕ → Result Linear Fault
symbol_for check [] = Err (Symbol Empty)
symbol_for check (c ∷ cs) = code39_symbol check (values_of (c ∷ cs))

-- the symbol for these bytes, or why there is none
abbrev pub code39_of : List ℕ → Bool → Result Linear Fault
code39_of src check = within_length src (symbol_for check (unstarred src))
