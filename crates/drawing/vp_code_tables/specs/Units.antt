-- Which characters bytes are, unit by unit.
use Rattle.std.specs.Prelude.{ℕ, zero, suc, ◌+◌, ◌-◌, nat_lt, Option, Some, None, List, [], ◌∷◌, length, take, if◌then◌else◌}
use Rattle.vp_code_tables.specs.declared.encoding.Encoding.{Encoding}
use Rattle.vp_code_tables.specs.declared.encoding.Encoding.TheVariants.{Bytes, Utf8, Utf16}
use Rattle.vp_code_tables.specs.declared.national.NationalSet.{NationalSet}
use Rattle.vp_code_tables.specs.declared.table.CodeTable.{CodeTable}
use Rattle.vp_code_tables.specs.declared.unit.Decoded.{Decoded}
use Rattle.vp_code_tables.specs.Sets.{in_set}
use Rattle.vp_code_tables.specs.Tables.{in_table}
use Rattle.vp_code_tables.specs.Utf8.{utf8_character, utf8_len}
use Rattle.vp_code_tables.specs.Utf16.{utf16_character, utf16_len}

-- the character of one byte: below 80 the national set's, from 80 on the table's
unfoldable pub byte_character : CodeTable → NationalSet → ℕ → Option ℕ
byte_character table set byte = if nat_lt byte 0x80 then Some (in_set set byte) else in_table table byte

abbrev pub one_character : CodeTable → NationalSet → List ℕ → Option ℕ
one_character table set (byte ∷ []) = byte_character table set byte
one_character table set _ = None

-- the character of a unit's bytes
unfoldable pub character_of : Encoding → List ℕ → Option ℕ
character_of (Bytes table set) bytes = one_character table set bytes
character_of Utf8 bytes = utf8_character bytes
character_of (Utf16 order) bytes = utf16_character order bytes

-- how many bytes the unit has that begins with these
unfoldable pub unit_len : Encoding → List ℕ → ℕ
unit_len (Bytes table set) bytes = 1
unit_len Utf8 bytes = utf8_len bytes
unit_len (Utf16 order) bytes = utf16_len order bytes

abbrev pub unit_of : Encoding → List ℕ → Decoded
unit_of encoding bytes = record { character = character_of encoding bytes; len = length bytes }

-- the units of bytes, behind so many that are passed
unfoldable pub units_behind : Encoding → ℕ → List ℕ → List Decoded
units_behind encoding passed [] = []
units_behind encoding (suc passed) (b ∷ bytes) = units_behind encoding passed bytes
units_behind encoding zero (b ∷ bytes) =
    unit_of encoding (take (unit_len encoding (b ∷ bytes)) (b ∷ bytes))
    ∷ units_behind encoding (unit_len encoding (b ∷ bytes) - 1) bytes

-- the units of bytes, from the first on
abbrev pub units : Encoding → List ℕ → List Decoded
units encoding bytes = units_behind encoding 0 bytes

-- how many bytes units have
unfoldable pub total : List Decoded → ℕ
total [] = 0
total (unit ∷ rest) = unit.len + total rest
