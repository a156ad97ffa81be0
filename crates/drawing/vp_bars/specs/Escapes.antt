-- Code 128 as Epson's GS k has it: { and a letter or digit select code sets and function characters.
use Rattle.std.specs.Prelude.{ℕ, ◌==◌, Bool, false, List, [], ◌∷◌, Option, None, Some, Result, Ok, Err, if◌then◌else◌}
use Prim.Native.Char.{code}
use Rattle.vp_dots.specs.declared.fault.Fault.{Fault}
use Rattle.vp_dots.specs.declared.fault.Fault.TheVariants.{Symbol}
use Rattle.vp_dots.specs.declared.fault.Why.{Why}
use Rattle.vp_dots.specs.declared.fault.Why.TheVariants as why
use Rattle.vp_bars.specs.declared.code_128.CodeSet.{CodeSet}
use Rattle.vp_bars.specs.declared.code_128.CodeSet.TheVariants.{A, B, C}
use Rattle.vp_bars.specs.declared.code_128.Token.{Token}
use Rattle.vp_bars.specs.declared.code_128.Token.TheVariants.{Byte, Code, Lead}
use Rattle.vp_bars.specs.Symbols.{Linear, within_length}
use Rattle.vp_bars.specs.CodeSets.{selector_of, other_of, value_in, onto, plain, tokens, symbol_from}

-- the lead of the codes: {
abbrev pub brace : ℕ
brace = code "{"

-- {A {B {C select a set
abbrev pub selected : ℕ → Option CodeSet
selected c =
    if c == code "A" then Some A else if c == code "B" then Some B else if c == code "C" then Some C else None

-- in A and B {1 {2 {3 {4 are FNC1 to FNC4, and FNC4 is the set's own selector
abbrev pub function_in : CodeSet → ℕ → Option ℕ
function_in set c =
    if c == code "1" then Some 102 else if c == code "2" then Some 97 else if c == code "3" then Some 96
    else if c == code "4" then Some (selector_of set) else None

-- the set itself needs no selector
abbrev pub selection : CodeSet → CodeSet → List ℕ
selection A A = []
selection B B = []
selection C C = []
selection _ set = selector_of set ∷ []

-- what follows a code that isn't one
abbrev pub refused : Result (List ℕ) Why
refused = Err why.CodeSet

-- a function character before what follows
abbrev pub function : Option ℕ → Result (List ℕ) Why → Result (List ℕ) Why
function None following = refused
function (Some v) following = onto (v ∷ []) following

-- a code that selects no set: in C there is FNC1 alone; {{ is the byte itself
abbrev pub other_code : CodeSet → ℕ → Result (List ℕ) Why → Result (List ℕ) Why
other_code C c following = if c == code "1" then onto (102 ∷ []) following else refused
other_code set c following = if c == brace then plain (value_in set brace) following
    else function (function_in set c) following

-- a code before what follows it in each set
abbrev pub coded : CodeSet → ℕ → Option CodeSet → (CodeSet → Result (List ℕ) Why) → Result (List ℕ) Why
coded set c None following = other_code set c (following set)
coded set c (Some next) following = onto (selection set next) (following next)

abbrev pub is_shift : CodeSet → ℕ → Bool
is_shift C c = false
is_shift _ c = c == code "S"

-- {S shifts the next byte of data into the other one of A and B
abbrev pub shifted : CodeSet → ℕ → Result (List ℕ) Why → Result (List ℕ) Why
shifted set b following = onto (98 ∷ []) (plain (value_in (other_of set) b) following)

abbrev mutual
  -- the values of data, read with a code set in force
  pub escaped : CodeSet → List Token → Result (List ℕ) Why
  escaped set [] = Ok []
  escaped set (Byte b ∷ ts) = plain (value_in set b) (escaped set ts)
  escaped set (Lead ∷ ts) = refused
  escaped set (Code c ∷ ts) = if is_shift set c then after_shift set ts
      else coded set c (selected c) (λ next. escaped next ts)

  -- those behind {S, where only a byte or {{ may stand
  pub after_shift : CodeSet → List Token → Result (List ℕ) Why
  after_shift set [] = refused
  after_shift set (Byte b ∷ ts) = shifted set b (escaped set ts)
  after_shift set (Lead ∷ ts) = refused
  after_shift set (Code c ∷ ts) = if c == brace then shifted set brace (escaped set ts) else refused

abbrev pub from_set : Option CodeSet → List ℕ → Result Linear Fault
from_set None bytes = Err (Symbol why.CodeSet)
from_set (Some set) bytes = symbol_from set (escaped set (tokens brace bytes))

-- the data begin by selecting the start set
abbrev pub escaped_symbol : List ℕ → Result Linear Fault
escaped_symbol [] = Err (Symbol why.CodeSet)
escaped_symbol (b ∷ []) = Err (Symbol why.CodeSet)
escaped_symbol (b ∷ c ∷ bytes) = from_set (if b == brace then selected c else None) bytes

-- the symbol for these bytes, or why there is none
abbrev pub code128_esc_of : List ℕ → Result Linear Fault
code128_esc_of src = within_length src (escaped_symbol src)
