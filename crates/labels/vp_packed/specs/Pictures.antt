-- The bytes of a picture, as many as it has, of packed data; or why they are refused.
use Rattle.std.specs.Prelude.{ℕ, ◌-◌, ◌==◌, not, Bool, false, List, ◌++◌, length, take, drop, replicate, Option, Some, None, Result, Ok, Err, if◌then◌else◌}
use Rattle.vp_inflate.specs.declared.fault.Stop.{Stop}
use Rattle.vp_inflate.specs.declared.fault.Stop.TheVariants as stop
use Rattle.vp_inflate.specs.Fronts.{front}
use Rattle.vp_packed.specs.declared.text.Packing.{Packing}
use Rattle.vp_packed.specs.declared.text.Packing.TheVariants.{Plain, Zlib}
use Rattle.vp_packed.specs.declared.text.Refusal.{Refusal}
use Rattle.vp_packed.specs.declared.text.Refusal.TheVariants.{Head, End, Check, Sign, Padding, Short, Broken}
use Rattle.vp_packed.specs.Base64.{are_signs, are_fours, values, bytes_of}
use Rattle.vp_packed.specs.Check.{crc, check_of}
use Rattle.vp_packed.specs.Texts.{kind_of, signs_before, body_of, behind_colon}

-- the first of these bytes, and white behind the last
abbrev pub filled_up : ℕ → List ℕ → List ℕ
filled_up room bytes = take room bytes ++ replicate (room - length bytes) 0

abbrev pub from_front : ℕ → Result (List ℕ) Stop → Result (List ℕ) Refusal
from_front room (Ok bytes) = Ok (filled_up room bytes)
from_front room (Err (stop.Broken fault)) = Err (Broken fault)
from_front room (Err stop) = Err Short

-- what zlib's format packs
abbrev pub unzipped : ℕ → List ℕ → Result (List ℕ) Refusal
unzipped room bytes = from_front room (front room bytes)

abbrev pub shown : ℕ → Packing → List ℕ → Result (List ℕ) Refusal
shown room Plain bytes = Ok (filled_up room bytes)
shown room Zlib bytes = unzipped room bytes

-- whether the check is this one
abbrev pub is_check : ℕ → Option ℕ → Bool
is_check c None = false
is_check c (Some said) = said == c

abbrev pub signs_shown : ℕ → Packing → List ℕ → Result (List ℕ) Refusal
signs_shown room kind signs =
    if not (are_signs false signs) then Err Sign
    else if not (are_fours signs) then Err Padding
    else shown room kind (bytes_of (values signs))

abbrev pub behind_head : ℕ → Option Packing → List ℕ → Result (List ℕ) Refusal
behind_head room None rest = Err Head
behind_head room (Some kind) rest =
    if signs_before rest == length rest then Err End
    else if not (is_check (crc (body_of rest)) (check_of (behind_colon rest))) then Err Check
    else signs_shown room kind (body_of rest)

-- the bytes of a picture that has so many
unfoldable pub picture : ℕ → List ℕ → Result (List ℕ) Refusal
picture room text = behind_head room (kind_of text) (drop 5 text)
