-- What the data of ^BQ say before the bytes of the symbol (ZPL II, ^BQ, "^FD Field Data").
use Rattle.std.specs.Prelude.{ℕ, ◌+◌, ◌-◌, ◌*◌, ◌==◌, nat_le, Bool, ◌&&◌, Option, Some, None, Result, Ok, Err, List, [], ◌∷◌, length, if◌then◌else◌}
use Prim.Native.Char.{code}
use Rattle.vp_dots.specs.declared.fault.Fault.{Fault}
use Rattle.vp_dots.specs.declared.fault.Fault.TheVariants.{Symbol}
use Rattle.vp_dots.specs.declared.fault.Why.TheVariants.{Empty, Length, CodeSet, Unsupported}
use Rattle.vp_qr.specs.declared.level.Level.{Level}
use Rattle.vp_qr.specs.declared.level.Level.TheVariants.{L, M, Q, H}
use Rattle.vp_qr.specs.declared.segment.Mode.{Mode}
use Rattle.vp_qr.specs.declared.segment.Mode.TheVariants.{Auto, Digits, Alnum, Bytes}
use Rattle.vp_qr_field.specs.declared.front.QrFront.{QrFront}

-- the letter of a level of error correction
abbrev pub level_of : ℕ → Option Level
level_of c =
    if c == code "H" then Some H
    else if c == code "Q" then Some Q
    else if c == code "M" then Some M
    else if c == code "L" then Some L
    else None

abbrev pub front : Level → Mode → ℕ → Result QrFront Fault
front level mode bytes = Ok (record { level = level; mode = mode; length = bytes })

-- any other front
abbrev pub no_front : Result QrFront Fault
no_front = Err (Symbol CodeSet)

abbrev pub is_digit : ℕ → Bool
is_digit c = nat_le (code "0") c && nat_le c (code "9")

abbrev pub are_digits : ℕ → ℕ → ℕ → ℕ → Bool
are_digits a b c d = is_digit a && is_digit b && is_digit c && is_digit d

-- the number of four digits
abbrev pub number_of : ℕ → ℕ → ℕ → ℕ → ℕ
number_of a b c d = 1000 * (a - code "0") + 100 * (b - code "0") + 10 * (c - code "0") + (d - code "0")

-- B: four digits say how many bytes come, and as many come
abbrev pub counted_front : Level → List ℕ → Result QrFront Fault
counted_front level (a ∷ b ∷ c ∷ d ∷ bytes) =
    if are_digits a b c d && number_of a b c d == length bytes then front level Bytes 8
    else Err (Symbol Length)
counted_front level _ = Err (Symbol Length)

-- M and a comma: a letter says how the bytes are read; K, Kanji, isn't drawn
abbrev pub manual : Level → List ℕ → Result QrFront Fault
manual level [] = no_front
manual level (c ∷ rest) =
    if c == code "N" then front level Digits 4
    else if c == code "A" then front level Alnum 4
    else if c == code "B" then counted_front level rest
    else if c == code "K" then Err (Symbol Unsupported)
    else no_front

-- A and a comma: how they are read is chosen by the bytes
abbrev pub mode_of : Level → ℕ → List ℕ → Result QrFront Fault
mode_of level c rest =
    if c == code "A" then front level Auto 3 else if c == code "M" then manual level rest else no_front

abbrev pub level_and_mode : Option Level → ℕ → ℕ → List ℕ → Result QrFront Fault
level_and_mode None c comma rest = no_front
level_and_mode (Some level) c comma rest = if comma == code "," then mode_of level c rest else no_front

abbrev pub front_in : List ℕ → Result QrFront Fault
front_in [] = Err (Symbol Empty)
front_in (letter ∷ c ∷ comma ∷ rest) = level_and_mode (level_of letter) c comma rest
front_in _ = no_front

-- the front of the data, or why there is none; model 1 isn't drawn, whatever the data
abbrev pub front_of : ℕ → List ℕ → Result QrFront Fault
front_of model bytes = if model == 1 then Err (Symbol Unsupported) else front_in bytes
