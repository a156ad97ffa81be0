-- The parts of ISO/IEC 8859, from 80 on.
use Rattle.std.specs.Prelude.{ℕ, List}
use Rattle.vp_code_tables.specs.declared.iso.IsoPart.{IsoPart}
use Rattle.vp_code_tables.specs.declared.iso.IsoPart.TheVariants as parts
use Rattle.vp_code_tables.specs.declared.iso.TheConstants as iso

-- the code points of the bytes from 80 to FF
unfoldable pub part_codes : IsoPart → List ℕ
part_codes parts.Part1 = iso.ISO8859_1
part_codes parts.Part2 = iso.ISO8859_2
part_codes parts.Part3 = iso.ISO8859_3
part_codes parts.Part4 = iso.ISO8859_4
part_codes parts.Part5 = iso.ISO8859_5
part_codes parts.Part6 = iso.ISO8859_6
part_codes parts.Part7 = iso.ISO8859_7
part_codes parts.Part8 = iso.ISO8859_8
part_codes parts.Part9 = iso.ISO8859_9
part_codes parts.Part10 = iso.ISO8859_10
part_codes parts.Part11 = iso.ISO8859_11
part_codes parts.Part13 = iso.ISO8859_13
part_codes parts.Part14 = iso.ISO8859_14
part_codes parts.Part15 = iso.ISO8859_15
part_codes parts.Part16 = iso.ISO8859_16
