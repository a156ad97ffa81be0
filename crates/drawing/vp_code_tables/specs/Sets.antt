-- The national sets, which change some bytes below 80.
use Rattle.std.specs.Prelude.{ℕ, ◌==◌, Option, Some, None, List, slice_index, if◌then◌else◌}
use Rattle.vp_code_tables.specs.declared.country.Country.{Country}
use Rattle.vp_code_tables.specs.declared.country.Country.TheVariants as countries
use Rattle.vp_code_tables.specs.declared.country.TheConstants as rows
use Rattle.vp_code_tables.specs.declared.label_set.LabelSet.{LabelSet}
use Rattle.vp_code_tables.specs.declared.label_set.LabelSet.TheVariants as labels
use Rattle.vp_code_tables.specs.declared.label_set.TheConstants as label_rows
use Rattle.vp_code_tables.specs.declared.national.NationalSet.{NationalSet}
use Rattle.vp_code_tables.specs.declared.national.NationalSet.TheVariants.{Country as OfCountry, Label as OfLabel}
use Rattle.vp_code_tables.specs.declared.national.TheConstants.{EURO, EURO_BYTE}

-- the code points of a country's set, in the order of the bytes below (ESC/POS, ESC R)
unfoldable pub country_row : Country → List ℕ
country_row countries.Usa = rows.USA
country_row countries.France = rows.FRANCE
country_row countries.Germany = rows.GERMANY
country_row countries.UnitedKingdom = rows.UNITED_KINGDOM
country_row countries.DenmarkOne = rows.DENMARK_ONE
country_row countries.Sweden = rows.SWEDEN
country_row countries.Italy = rows.ITALY
country_row countries.SpainOne = rows.SPAIN_ONE
country_row countries.Japan = rows.JAPAN
country_row countries.Norway = rows.NORWAY
country_row countries.DenmarkTwo = rows.DENMARK_TWO
country_row countries.SpainTwo = rows.SPAIN_TWO
country_row countries.LatinAmerica = rows.LATIN_AMERICA
country_row countries.Korea = rows.KOREA
country_row countries.Croatia = rows.CROATIA
country_row countries.China = rows.CHINA
country_row countries.Vietnam = rows.VIETNAM

-- and of a label's (ZPL II, ^CI)
unfoldable pub label_row : LabelSet → List ℕ
label_row labels.UsaOne = label_rows.USA_ONE
label_row labels.UsaTwo = label_rows.USA_TWO
label_row labels.UnitedKingdom = label_rows.UNITED_KINGDOM
label_row labels.Holland = label_rows.HOLLAND
label_row labels.Denmark = label_rows.DENMARK
label_row labels.Sweden = label_rows.SWEDEN
label_row labels.Germany = label_rows.GERMANY
label_row labels.FranceOne = label_rows.FRANCE_ONE
label_row labels.FranceTwo = label_rows.FRANCE_TWO
label_row labels.Italy = label_rows.ITALY
label_row labels.Spain = label_rows.SPAIN
label_row labels.Miscellaneous = label_rows.MISCELLANEOUS
label_row labels.Japan = label_rows.JAPAN
label_row labels.Plain = label_rows.PLAIN

-- the twelve bytes that sets change
unfoldable pub place_of : ℕ → Option ℕ
place_of byte =
    if byte == 0x23 then Some 0
    else if byte == 0x24 then Some 1
    else if byte == 0x40 then Some 2
    else if byte == 0x5b then Some 3
    else if byte == 0x5c then Some 4
    else if byte == 0x5d then Some 5
    else if byte == 0x5e then Some 6
    else if byte == 0x60 then Some 7
    else if byte == 0x7b then Some 8
    else if byte == 0x7c then Some 9
    else if byte == 0x7d then Some 10
    else if byte == 0x7e then Some 11
    else None

-- the character at a place of a row; else ASCII's
abbrev pub at_place : List ℕ → Option ℕ → ℕ → ℕ
at_place row (Some place) ascii = slice_index row place
at_place row None ascii = ascii

-- the character of a byte below 80
unfoldable pub in_set : NationalSet → ℕ → ℕ
in_set (OfCountry country) byte = at_place (country_row country) (place_of byte) byte
in_set (OfLabel label) byte =
    at_place (label_row label) (place_of byte) (if byte == EURO_BYTE then EURO else byte)
