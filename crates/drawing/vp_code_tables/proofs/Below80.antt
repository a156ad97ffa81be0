-- ASCII in every table.
use Rattle.std.proofs.Common.{◌≡◌, ◌≢◌, ℕ, ◌<◌, ◌==◌, Bool, true, false, if◌then◌else◌, Option, None, Some, List, refl, sym, ap, ◌∙◌, arith, ◌∷◌}
use Rattle.std.proofs.lemmas.Bool.Decides.{nat_tests}
use Rattle.std.specs.Prelude.{nat_lt, slice_index}
use Rattle.vp_code_tables.specs.declared.country.Country.TheVariants.{Usa}
use Rattle.vp_code_tables.specs.declared.national.NationalSet.{NationalSet}
use Rattle.vp_code_tables.specs.declared.national.NationalSet.TheVariants as sets
use Rattle.vp_code_tables.specs.declared.national.TheConstants.{EURO, EURO_BYTE}
use Rattle.vp_code_tables.specs.declared.table.CodeTable.{CodeTable}
use Rattle.vp_code_tables.specs.Sets.{in_set, place_of, at_place, country_row, label_row}
use Rattle.vp_code_tables.specs.Tables.{in_table}
use Rattle.vp_code_tables.specs.Units.{byte_character, units}
use Rattle.vp_code_tables.specs.declared.encoding.Encoding.TheVariants.{Utf8}
use Rattle.vp_code_tables.proofs.Steps.{written}
use Rattle.vp_code_tables.proofs.Utf8Steps.{first_written}
use Rattle.vp_code_tables.proofs.Utf8Values.{len-one}

-- a row that has the byte itself at its place
at_if : (row : List ℕ) (code place byte : ℕ) (rest : Option ℕ) → slice_index row place ≡ code
    → at_place row rest byte ≡ byte → at_place row (if byte == code then Some place else rest) byte ≡ byte
at_if row code place byte rest at others = by_test (byte == code) refl
  where
    by_test : (same : Bool) → (byte == code) ≡ same
        → at_place row (if same then Some place else rest) byte ≡ byte
    by_test true e = let is : byte ≡ code = grind (arith, nat_tests, e) in at ∙ sym is
    by_test false e = others

usa-row : (byte : ℕ) → at_place (country_row Usa) (place_of byte) byte ≡ byte
unfolding country_row place_of
usa-row byte =
    let row = country_row Usa in
    at_if row 0x23 0 byte _ refl (at_if row 0x24 1 byte _ refl (at_if row 0x40 2 byte _ refl
    (at_if row 0x5b 3 byte _ refl (at_if row 0x5c 4 byte _ refl (at_if row 0x5d 5 byte _ refl
    (at_if row 0x5e 6 byte _ refl (at_if row 0x60 7 byte _ refl (at_if row 0x7b 8 byte _ refl
    (at_if row 0x7c 9 byte _ refl (at_if row 0x7d 10 byte _ refl (at_if row 0x7e 11 byte None refl refl)))))))))))

-- below 80 it is the set's
below : (table : CodeTable) (set : NationalSet) (byte : ℕ) → byte < 128
    → byte_character table set byte ≡ Some (in_set set byte)
unfolding byte_character
below table set byte lt =
    let so : nat_lt byte 128 ≡ true = grind (arith, nat_tests, lt) in
    ap (λ (b : Bool). if b then Some (in_set set byte) else in_table table byte) so

pub usa : (table : CodeTable) (byte : ℕ) → byte < 128 → byte_character table (sets.Country Usa) byte ≡ Some byte
unfolding in_set
usa table byte lt = below table (sets.Country Usa) byte lt ∙ ap (λ (code : ℕ). Some code) (usa-row byte)

no_euro : (byte : ℕ) → byte ≢ EURO_BYTE → (if byte == EURO_BYTE then EURO else byte) ≡ byte
no_euro byte not = by_test (byte == EURO_BYTE) refl
  where
    by_test : (same : Bool) → (byte == EURO_BYTE) ≡ same → (if same then EURO else byte) ≡ byte
    by_test true e = let is : byte ≡ EURO_BYTE = grind (arith, nat_tests, e) in absurd (not is)
    by_test false e = refl

pub unchanged : (table : CodeTable) (set : NationalSet) (byte : ℕ) → byte < 128 → place_of byte ≡ None
    → byte ≢ EURO_BYTE → byte_character table set byte ≡ Some byte
unfolding in_set
unchanged table (sets.Country country) byte lt none not =
    below table (sets.Country country) byte lt
    ∙ ap (λ (place : Option ℕ). Some (at_place (country_row country) place byte)) none
unchanged table (sets.Label label) byte lt none not =
    below table (sets.Label label) byte lt
    ∙ ap (λ (place : Option ℕ). Some (at_place (label_row label) place (if byte == EURO_BYTE then EURO else byte))) none
    ∙ ap (λ (code : ℕ). Some code) (no_euro byte not)

pub in_utf8 : (byte : ℕ) (bytes : List ℕ) → byte < 128
    → units Utf8 (byte ∷ bytes) ≡ written byte 1 ∷ units Utf8 bytes
in_utf8 byte bytes lt = (first_written byte (len-one byte (omega arith))).same bytes
