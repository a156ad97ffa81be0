-- A carrier's message as label printers are given it, in front of the bytes.
use Rattle.std.specs.Prelude.{ℕ, ◌+◌, ◌*◌, ◌&&◌, nat_le, List, [], ◌∷◌, Option, Some, None, drop, length, slice_index, if◌then◌else◌}
use Rattle.vp_maxicode.specs.declared.mode.Carrier.{Carrier}
use Rattle.vp_maxicode.specs.declared.mode.PostalCode.TheVariants.{Numeric, Alphanumeric}
use Rattle.vp_maxicode.specs.Characters.{is_digit}
use Rattle.vp_maxicode.specs.Messages.{begins, digit, number}

-- the number of three digits from place i on
abbrev pub three : List ℕ → ℕ → ℕ
three src i = 100 * digit src i + 10 * digit src (i + 1) + digit src (i + 2)

-- the class of service, the country, and a postal code of nine digits
unfoldable pub numeric_carrier : List ℕ → Option Carrier
numeric_carrier src =
    if begins is_digit 15 src
    then Some (record {
      postal = Numeric (number (drop 6 src)) 9;
      country = three src 3;
      service = three src 0;
    })
    else None

-- and one of six characters
unfoldable pub alphanumeric_carrier : List ℕ → Option Carrier
alphanumeric_carrier src =
    if begins is_digit 6 src && nat_le 12 (length src)
    then Some (record {
      postal = Alphanumeric (slice_index src 6 ∷ slice_index src 7 ∷ slice_index src 8 ∷ slice_index src 9
          ∷ slice_index src 10 ∷ slice_index src 11 ∷ []);
      country = three src 3;
      service = three src 0;
    })
    else None
