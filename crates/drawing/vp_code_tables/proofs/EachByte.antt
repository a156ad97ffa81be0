-- Each byte belongs to one unit.
use Rattle.std.proofs.Common.{◌≡◌, ℕ, zero, suc, ◌-◌, ◌≤◌, ◌&&◌, Bool, true, false, if◌then◌else◌, List, [], ◌∷◌, ◌++◌, length, ◌∙◌, arith}
use Rattle.std.proofs.lemmas.List.{length-append, length-take}
use Rattle.vp_code_tables.specs.declared.encoding.Encoding.{Encoding}
use Rattle.vp_code_tables.specs.declared.encoding.Encoding.TheVariants.{Bytes, Utf8, Utf16}
use Rattle.vp_code_tables.specs.declared.utf16.ByteOrder.{ByteOrder}
use Rattle.vp_code_tables.specs.Units.{units, units_behind, unit_len, total}
use Rattle.vp_code_tables.specs.Utf8.{Part, Whole, Begins, Neither, part_of, len_by, len_behind, utf8_len}
use Rattle.vp_code_tables.specs.Utf16.{code_unit, is_high, low_follows, utf16_len}

-- a unit has at least what was read of it, and at least one byte
by_part : (part : Part) (read behind : ℕ) → suc read ≤ behind → read ≤ len_by part read behind
by_part Whole read behind le = omega arith
by_part Begins read behind le = omega arith
by_part Neither read behind le = omega arith

some_by_part : (part : Part) (read behind : ℕ) → 1 ≤ behind → 1 ≤ len_by part read behind
some_by_part Whole read behind le = omega arith
some_by_part Begins read behind le = le
some_by_part Neither read behind le = omega arith

read-len : (bytes read : List ℕ) → length read ≤ len_behind read bytes
unfolding len_behind
read-len [] read = omega arith
read-len (b ∷ bytes) read =
    let more = read-len bytes (read ++ b ∷ []) in
    let long = length-append read (b ∷ []) in
    by_part (part_of (read ++ b ∷ [])) (length read) (len_behind (read ++ b ∷ []) bytes) (omega arith)

some-utf8 : (b : ℕ) (bytes : List ℕ) → 1 ≤ utf8_len (b ∷ bytes)
unfolding len_behind
some-utf8 b bytes = some_by_part (part_of (b ∷ [])) 0 (len_behind (b ∷ []) bytes) (read-len bytes (b ∷ []))

four_or_two : (so : Bool) → 1 ≤ (if so then 4 else 2)
four_or_two true = omega arith
four_or_two false = omega arith

some-utf16 : (order : ByteOrder) (b : ℕ) (bytes : List ℕ) → 1 ≤ utf16_len order (b ∷ bytes)
some-utf16 order b [] = omega arith
some-utf16 order a (b ∷ bytes) = four_or_two (is_high (code_unit order a b) && low_follows order bytes)

some : (encoding : Encoding) (b : ℕ) (bytes : List ℕ) → 1 ≤ unit_len encoding (b ∷ bytes)
unfolding unit_len
some (Bytes table set) b bytes = omega arith
some Utf8 b bytes = some-utf8 b bytes
some (Utf16 order) b bytes = some-utf16 order b bytes

behind : (encoding : Encoding) (bytes : List ℕ) (passed : ℕ) → total (units_behind encoding passed bytes) ≡ length bytes - passed
unfolding units_behind total
behind encoding [] passed = omega arith
behind encoding (b ∷ bytes) (suc passed) = behind encoding bytes passed ∙ omega arith
behind encoding (b ∷ bytes) zero =
    let len = unit_len encoding (b ∷ bytes) in
    let rest = behind encoding bytes (len - 1) in
    let first = length-take len (b ∷ bytes) in
    let one = some encoding b bytes in
    omega (arith, rest, first, one)

pub each_byte : (encoding : Encoding) (bytes : List ℕ) → total (units encoding bytes) ≡ length bytes
each_byte encoding bytes = behind encoding bytes 0 ∙ omega arith
