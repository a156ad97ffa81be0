-- The parts of a text (ZPL II, ^GF): a head, signs, a colon, and their check.
use Rattle.std.specs.Prelude.{ℕ, ◌+◌, ◌==◌, ◌&&◌, List, [], ◌∷◌, take, drop, Option, Some, None, if◌then◌else◌}
use Prim.Native.Char.{code}
use Rattle.vp_packed.specs.declared.text.Packing.{Packing}
use Rattle.vp_packed.specs.declared.text.Packing.TheVariants.{Plain, Zlib}

-- what the head says: :B64: or :Z64:
unfoldable pub kind_of : List ℕ → Option Packing
kind_of (a ∷ b ∷ c ∷ d ∷ e ∷ rest) =
    if a == code ":" && c == code "6" && d == code "4" && e == code ":"
    then (if b == code "B" then Some Plain else if b == code "Z" then Some Zlib else None)
    else None
kind_of _ = None

-- how many signs stand before the first colon
unfoldable pub signs_before : List ℕ → ℕ
signs_before [] = 0
signs_before (c ∷ rest) = if c == code ":" then 0 else signs_before rest + 1

-- behind the head: the signs, and what is behind the colon
abbrev pub body_of : List ℕ → List ℕ
body_of rest = take (signs_before rest) rest

abbrev pub behind_colon : List ℕ → List ℕ
behind_colon rest = drop (signs_before rest + 1) rest
