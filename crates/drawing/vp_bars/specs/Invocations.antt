-- Code 128 as ZPL's ^BC has it without automatic mode: > and a character invoke code sets and values.
use Rattle.std.specs.Prelude.{ℕ, ◌+◌, ◌-◌, ◌*◌, ◌==◌, List, [], ◌∷◌, nat_lt, Option, None, Some, Result, Ok, Err, if◌then◌else◌}
use Rattle.std.specs.Char.{is_ascii_digit}
use Prim.Native.Char.{code}
use Rattle.vp_dots.specs.declared.fault.Fault.{Fault}
use Rattle.vp_dots.specs.declared.fault.Why.{Why}
use Rattle.vp_dots.specs.declared.fault.Why.TheVariants as why
use Rattle.vp_bars.specs.declared.code_128.CodeSet.{CodeSet}
use Rattle.vp_bars.specs.declared.code_128.CodeSet.TheVariants.{A, B, C}
use Rattle.vp_bars.specs.declared.code_128.Token.{Token}
use Rattle.vp_bars.specs.declared.code_128.Token.TheVariants.{Byte, Code, Lead}
use Rattle.vp_bars.specs.Symbols.{Linear, within_length}
use Rattle.vp_bars.specs.CodeSets.{selector_of, value_in, onto, plain, tokens, symbol_from}

-- the lead of the codes: >
abbrev pub greater : ℕ
greater = code ">"

-- >9 >: >; start in A, B, C
abbrev pub started : ℕ → Option CodeSet
started c =
    if c == code "9" then Some A else if c == code ":" then Some B else if c == code ";" then Some C else None

-- >5 >6 >7 invoke C, B, A
abbrev pub invoked_set : ℕ → Option CodeSet
invoked_set c =
    if c == code "5" then Some C else if c == code "6" then Some B else if c == code "7" then Some A else None

-- >1 >2 >3 are 95, 96, 97, and >0 >< >= the values of >, ^ and ~
abbrev pub invoked_value : ℕ → Option ℕ
invoked_value c =
    if c == code "1" then Some 95 else if c == code "2" then Some 96 else if c == code "3" then Some 97
    else if c == code "0" then Some 30 else if c == code "<" then Some 62 else if c == code "=" then Some 94
    else None

-- C in C gives nothing; B in B and A in A are FNC4
abbrev pub invocation : CodeSet → CodeSet → List ℕ
invocation C C = []
invocation _ set = selector_of set ∷ []

-- in C these values are dropped
abbrev pub given : CodeSet → ℕ → List ℕ
given C v = []
given _ v = v ∷ []

abbrev pub valued : CodeSet → Option ℕ → Result (List ℕ) Why → Result (List ℕ) Why
valued set None following = Err why.CodeSet
valued set (Some v) following = onto (given set v) following

-- a code that invokes no set; >8 is FNC1 in each
abbrev pub other_invocation : CodeSet → ℕ → Result (List ℕ) Why → Result (List ℕ) Why
other_invocation set c following = if c == code "8" then onto (102 ∷ []) following
    else valued set (invoked_value c) following

-- a code before what follows it in each set
abbrev pub invoked_code : CodeSet → ℕ → Option CodeSet → (CodeSet → Result (List ℕ) Why) → Result (List ℕ) Why
invoked_code set c None following = other_invocation set c (following set)
invoked_code set c (Some next) following = onto (invocation set next) (following next)

-- the number of two digits
abbrev pub pair_of : ℕ → ℕ → ℕ
pair_of d e = 10 * (d - 48) + (e - 48)

-- in A a pair above 95 is dropped
abbrev pub pair_in : CodeSet → ℕ → List ℕ
pair_in A v = if nat_lt v 96 then v ∷ [] else []
pair_in _ v = v ∷ []

-- the values of data, read with a code set in force: in A and C two digits make a value,
-- a digit that none follows is dropped with the byte after it, and so is any other byte alone
abbrev pub invoked : CodeSet → List Token → Result (List ℕ) Why
invoked set [] = Ok []
invoked set (Lead ∷ ts) = Err why.CodeSet
invoked set (Code c ∷ ts) = invoked_code set c (invoked_set c) (λ next. invoked next ts)
invoked B (Byte b ∷ ts) = plain (value_in B b) (invoked B ts)
invoked set (Byte d ∷ Byte e ∷ ts) = if is_ascii_digit d
    then onto (if is_ascii_digit e then pair_in set (pair_of d e) else []) (invoked set ts)
    else invoked set (Byte e ∷ ts)
invoked set (Byte b ∷ ts) = invoked set ts

abbrev pub invoked_from : CodeSet → List ℕ → Result Linear Fault
invoked_from set bytes = symbol_from set (invoked set (tokens greater bytes))

abbrev pub started_symbol : Option CodeSet → List ℕ → List ℕ → Result Linear Fault
started_symbol None src bytes = invoked_from B src
started_symbol (Some set) src bytes = invoked_from set bytes

-- the data may begin with a start; without one the start is that of B
abbrev pub invoked_symbol : List ℕ → Result Linear Fault
invoked_symbol [] = invoked_from B []
invoked_symbol (b ∷ []) = invoked_from B (b ∷ [])
invoked_symbol (b ∷ c ∷ bytes) = started_symbol (if b == greater then started c
    else None) (b ∷ c ∷ bytes) bytes

abbrev pub code128_invoked_of : List ℕ → Result Linear Fault
code128_invoked_of src = within_length src (invoked_symbol src)
