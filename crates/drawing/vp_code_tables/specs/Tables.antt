-- The code tables, from 80 on.
use Rattle.std.specs.Prelude.{ℕ, ◌-◌, ◌==◌, Option, Some, None, List, slice_index, if◌then◌else◌}
use Rattle.vp_code_tables.specs.declared.table.CodeTable.{CodeTable}
use Rattle.vp_code_tables.specs.declared.table.CodeTable.TheVariants as tables
use Rattle.vp_code_tables.specs.declared.table.TheConstants.{HOLE}
use Rattle.vp_code_tables.specs.declared.dos.TheConstants as dos
use Rattle.vp_code_tables.specs.declared.windows.TheConstants as windows
use Rattle.vp_code_tables.specs.declared.iso.TheConstants as iso
use Rattle.vp_code_tables.specs.Parts.{part_codes}

-- the code points of the bytes from 80 to FF
unfoldable pub codes_of : CodeTable → List ℕ
codes_of tables.Cp437 = dos.CP437
codes_of tables.Cp720 = dos.CP720
codes_of tables.Cp737 = dos.CP737
codes_of tables.Cp775 = dos.CP775
codes_of tables.Cp850 = dos.CP850
codes_of tables.Cp851 = dos.CP851
codes_of tables.Cp852 = dos.CP852
codes_of tables.Cp855 = dos.CP855
codes_of tables.Cp857 = dos.CP857
codes_of tables.Cp858 = dos.CP858
codes_of tables.Cp860 = dos.CP860
codes_of tables.Cp861 = dos.CP861
codes_of tables.Cp862 = dos.CP862
codes_of tables.Cp863 = dos.CP863
codes_of tables.Cp864 = dos.CP864
codes_of tables.Cp865 = dos.CP865
codes_of tables.Cp866 = dos.CP866
codes_of tables.Cp869 = dos.CP869
codes_of tables.Cp1125 = dos.CP1125
codes_of tables.Cp874 = windows.CP874
codes_of tables.Cp1250 = windows.CP1250
codes_of tables.Cp1251 = windows.CP1251
codes_of tables.Cp1252 = windows.CP1252
codes_of tables.Cp1253 = windows.CP1253
codes_of tables.Cp1254 = windows.CP1254
codes_of tables.Cp1255 = windows.CP1255
codes_of tables.Cp1256 = windows.CP1256
codes_of tables.Cp1257 = windows.CP1257
codes_of tables.Cp1258 = windows.CP1258
codes_of tables.Kz1048 = windows.KZ1048
codes_of (tables.Iso8859 part) = part_codes part
codes_of tables.Tis620 = iso.TIS620
codes_of tables.Katakana = iso.KATAKANA

abbrev pub unless_hole : ℕ → Option ℕ
unless_hole code = if code == HOLE then None else Some code

-- the character of a byte, from 80 on
unfoldable pub in_table : CodeTable → ℕ → Option ℕ
in_table table byte = unless_hole (slice_index (codes_of table) (byte - 128))
