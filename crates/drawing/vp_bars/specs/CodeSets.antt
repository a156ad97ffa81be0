-- The code sets of Code 128 (ISO/IEC 15417), its check and its symbols.
use Rattle.std.specs.Prelude.{ℕ, ◌+◌, ◌-◌, ◌*◌, ◌%◌, ◌==◌, ◌&&◌, List, [], ◌∷◌, ◌++◌, nat_lt, nat_le, Option, None, Some, Result, Ok, Err, if◌then◌else◌}
use Rattle.vp_dots.specs.declared.fault.Fault.{Fault}
use Rattle.vp_dots.specs.declared.fault.Fault.TheVariants.{Symbol}
use Rattle.vp_dots.specs.declared.fault.Why.{Why}
use Rattle.vp_dots.specs.declared.fault.Why.TheVariants.{Empty, Char}
use Rattle.vp_bars.specs.declared.symbology.Symbology.TheVariants as symbologies
use Rattle.vp_bars.specs.declared.code_128.CodeSet.{CodeSet}
use Rattle.vp_bars.specs.declared.code_128.CodeSet.TheVariants.{A, B, C}
use Rattle.vp_bars.specs.declared.code_128.Token.{Token}
use Rattle.vp_bars.specs.declared.code_128.Token.TheVariants.{Byte, Code, Lead}
use Rattle.vp_bars.specs.Symbols.{Linear}

-- the start character of a set (table 1)
abbrev pub start_of : CodeSet → ℕ
start_of A = 103
start_of B = 104
start_of C = 105

-- the character that changes to a set; in A and B that of the set itself is FNC4
abbrev pub selector_of : CodeSet → ℕ
selector_of A = 101
selector_of B = 100
selector_of C = 99

-- the set that a shift takes the next character from
abbrev pub other_of : CodeSet → CodeSet
other_of A = B
other_of B = A
other_of C = C

-- the value of a byte: A has 32 to 95 and then 0 to 31, B has 32 to 127, and a byte 0 to 99 of C is the
-- value itself
abbrev pub value_in : CodeSet → ℕ → Option ℕ
value_in A b = if nat_lt b 32 then Some (b + 64) else if nat_lt b 96 then Some (b - 32) else None
value_in B b = if nat_le 32 b && nat_lt b 128 then Some (b - 32) else None
value_in C b = if nat_lt b 100 then Some b else None

-- values before those of what follows
abbrev pub onto : List ℕ → Result (List ℕ) Why → Result (List ℕ) Why
onto vs (Ok ws) = Ok (vs ++ ws)
onto vs (Err why) = Err why

-- a byte's value before what follows; a byte that the set lacks comes before any offence behind it
abbrev pub plain : Option ℕ → Result (List ℕ) Why → Result (List ℕ) Why
plain None following = Err Char
plain (Some v) following = onto (v ∷ []) following

-- data where a lead and the byte after it are a code; a lead at the end stands alone
abbrev pub tokens : ℕ → List ℕ → List Token
tokens lead [] = []
tokens lead (b ∷ []) = (if b == lead then Lead else Byte b) ∷ []
tokens lead (b ∷ c ∷ bytes) = if b == lead then Code c ∷ tokens lead bytes
    else Byte b ∷ tokens lead (c ∷ bytes)

-- the bytes that a token is spelled with
abbrev pub token_size : Token → ℕ
token_size (Byte b) = 1
token_size (Code c) = 2
token_size Lead = 1

-- each value times its place, from this place on
abbrev pub placed : ℕ → List ℕ → ℕ
placed place [] = 0
placed place (v ∷ vs) = place * v + placed (place + 1) vs

-- the check character: the start and the sum of each value times its place, counted from 1, modulo 103
-- (annex A)
abbrev pub code_128_check : ℕ → List ℕ → ℕ
code_128_check start vs = (start + placed 1 vs) % 103

abbrev pub stop : ℕ
stop = 106

abbrev pub values_with : ℕ → List ℕ → List ℕ
values_with start vs = start ∷ vs ++ code_128_check start vs ∷ stop ∷ []

-- the symbol of these values, read from a start set: start, values, check, stop
abbrev pub symbol_from : CodeSet → Result (List ℕ) Why → Result Linear Fault
symbol_from set (Err why) = Err (Symbol why)
symbol_from set (Ok []) = Err (Symbol Empty)
symbol_from set (Ok (v ∷ vs)) = Ok (record {
  symbology = symbologies.Code128;
  values = values_with (start_of set) (v ∷ vs);
})
