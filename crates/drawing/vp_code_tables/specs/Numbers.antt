-- What the numbers of commands mean.
use Rattle.std.specs.Prelude.{ℕ, ◌==◌, ◌||◌, Option, Some, None, if◌then◌else◌}
use Rattle.vp_code_tables.specs.declared.country.Country.{Country}
use Rattle.vp_code_tables.specs.declared.country.Country.TheVariants as countries
use Rattle.vp_code_tables.specs.declared.encoding.Encoding.{Encoding}
use Rattle.vp_code_tables.specs.declared.encoding.Encoding.TheVariants.{Bytes, Utf8, Utf16}
use Rattle.vp_code_tables.specs.declared.iso.IsoPart.TheVariants as parts
use Rattle.vp_code_tables.specs.declared.label_set.LabelSet.{LabelSet}
use Rattle.vp_code_tables.specs.declared.label_set.LabelSet.TheVariants as labels
use Rattle.vp_code_tables.specs.declared.national.NationalSet.TheVariants as sets
use Rattle.vp_code_tables.specs.declared.table.CodeTable.{CodeTable}
use Rattle.vp_code_tables.specs.declared.table.CodeTable.TheVariants as tables
use Rattle.vp_code_tables.specs.declared.utf16.ByteOrder.TheVariants.{HighFirst, LowFirst}

-- ESC t (ESC/POS)
unfoldable pub esc_t_table : ℕ → Option CodeTable
esc_t_table n =
    if n == 0 then Some tables.Cp437
    else if n == 1 then Some tables.Katakana
    else if n == 2 then Some tables.Cp850
    else if n == 3 then Some tables.Cp860
    else if n == 4 then Some tables.Cp863
    else if n == 5 then Some tables.Cp865
    else if n == 11 then Some tables.Cp851
    else if n == 13 then Some tables.Cp857
    else if n == 14 then Some tables.Cp737
    else if n == 15 then Some (tables.Iso8859 parts.Part7)
    else if n == 16 then Some tables.Cp1252
    else if n == 17 then Some tables.Cp866
    else if n == 18 then Some tables.Cp852
    else if n == 19 then Some tables.Cp858
    else if n == 21 then Some tables.Tis620
    else if n == 26 then Some tables.Cp874
    else if n == 32 then Some tables.Cp720
    else if n == 33 then Some tables.Cp775
    else if n == 34 then Some tables.Cp855
    else if n == 35 then Some tables.Cp861
    else if n == 36 then Some tables.Cp862
    else if n == 37 then Some tables.Cp864
    else if n == 38 then Some tables.Cp869
    else if n == 39 then Some (tables.Iso8859 parts.Part2)
    else if n == 40 then Some (tables.Iso8859 parts.Part15)
    else if n == 44 then Some tables.Cp1125
    else if n == 45 then Some tables.Cp1250
    else if n == 46 then Some tables.Cp1251
    else if n == 47 then Some tables.Cp1253
    else if n == 48 then Some tables.Cp1254
    else if n == 49 then Some tables.Cp1255
    else if n == 50 then Some tables.Cp1256
    else if n == 51 then Some tables.Cp1257
    else if n == 52 then Some tables.Cp1258
    else if n == 53 then Some tables.Kz1048
    else None

-- ESC R (ESC/POS)
unfoldable pub esc_r_country : ℕ → Option Country
esc_r_country n =
    if n == 0 then Some countries.Usa
    else if n == 1 then Some countries.France
    else if n == 2 then Some countries.Germany
    else if n == 3 then Some countries.UnitedKingdom
    else if n == 4 then Some countries.DenmarkOne
    else if n == 5 then Some countries.Sweden
    else if n == 6 then Some countries.Italy
    else if n == 7 then Some countries.SpainOne
    else if n == 8 then Some countries.Japan
    else if n == 9 then Some countries.Norway
    else if n == 10 then Some countries.DenmarkTwo
    else if n == 11 then Some countries.SpainTwo
    else if n == 12 then Some countries.LatinAmerica
    else if n == 13 then Some countries.Korea
    else if n == 14 then Some countries.Croatia
    else if n == 15 then Some countries.China
    else if n == 16 then Some countries.Vietnam
    else if n == 17 then Some countries.Usa
    else None

-- FS ( C, function 48 (ESC/POS): bytes by the table and the country that are in force, or UTF-8
unfoldable pub fs_c_encoding : ℕ → CodeTable → Country → Option Encoding
fs_c_encoding m table country =
    if m == 1 || m == 49 then Some (Bytes table (sets.Country country))
    else if m == 2 || m == 50 then Some Utf8
    else None

-- ^CI (ZPL II): a national set, 0 to 13, and the sets of Asia without a table of their own
unfoldable pub ci_set : ℕ → Option LabelSet
ci_set n =
    if n == 0 then Some labels.UsaOne
    else if n == 1 then Some labels.UsaTwo
    else if n == 2 then Some labels.UnitedKingdom
    else if n == 3 then Some labels.Holland
    else if n == 4 then Some labels.Denmark
    else if n == 5 then Some labels.Sweden
    else if n == 6 then Some labels.Germany
    else if n == 7 then Some labels.FranceOne
    else if n == 8 then Some labels.FranceTwo
    else if n == 9 then Some labels.Italy
    else if n == 10 then Some labels.Spain
    else if n == 11 then Some labels.Miscellaneous
    else if n == 12 then Some labels.Japan
    else if n == 13 then Some labels.Plain
    else if n == 14 then Some labels.Plain
    else if n == 24 then Some labels.Plain
    else if n == 26 then Some labels.Plain
    else None

-- ^CI: a code page
unfoldable pub ci_page : ℕ → Option CodeTable
ci_page n =
    if n == 27 then Some tables.Cp1252
    else if n == 31 then Some tables.Cp1250
    else if n == 33 then Some tables.Cp1251
    else if n == 34 then Some tables.Cp1253
    else if n == 35 then Some tables.Cp1254
    else if n == 36 then Some tables.Cp1255
    else None

-- ^CI: an encoding of Unicode
unfoldable pub ci_unicode : ℕ → Option Encoding
ci_unicode n =
    if n == 28 then Some Utf8
    else if n == 17 || n == 29 then Some (Utf16 HighFirst)
    else if n == 30 then Some (Utf16 LowFirst)
    else None

abbrev pub with_set : Option LabelSet → Option Encoding → Option Encoding
with_set (Some set) other = Some (Bytes tables.Cp850 (sets.Label set))
with_set None other = other

abbrev pub with_page : Option CodeTable → Option Encoding → Option Encoding
with_page (Some page) other = Some (Bytes page (sets.Country countries.Usa))
with_page None other = other

-- ^CI (ZPL II): code page 850 with a national set, another code page over ASCII, or Unicode
unfoldable pub ci_encoding : ℕ → Option Encoding
ci_encoding n = with_set (ci_set n) (with_page (ci_page n) (ci_unicode n))
