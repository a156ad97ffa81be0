-- The bytes of a unit that is begun, and one byte more.
use Rattle.std.specs.Prelude.{ℕ, ◌≡◌, Bool, true, false, List, [], ◌∷◌, ◌++◌, option_to_list}
use Rattle.vp_code_tables.specs.declared.begun.Begun.{Begun}
use Rattle.vp_code_tables.specs.declared.begun.Begun.TheVariants.{Nothing, One, Two, Three}
use Rattle.vp_code_tables.specs.declared.encoding.Encoding.{Encoding}
use Rattle.vp_code_tables.specs.declared.encoding.Encoding.TheVariants as encodings
use Rattle.vp_code_tables.specs.declared.unit.Given.{Given}
use Rattle.vp_code_tables.specs.declared.unit.Decoded.{Decoded}
use Rattle.vp_code_tables.specs.Units.{units}
use Rattle.vp_code_tables.specs.Utf8.{Part, Begins, part_of}
use Rattle.vp_code_tables.specs.Utf16.{code_unit, is_high}

-- the bytes that are begun
abbrev pub begun_bytes : Begun → List ℕ
begun_bytes Nothing = []
begun_bytes (One a) = a ∷ []
begun_bytes (Two a b) = a ∷ b ∷ []
begun_bytes (Three a b c) = a ∷ b ∷ c ∷ []

-- the units that are given
abbrev pub given_units : Given → List Decoded
given_units given = option_to_list given.cut ++ option_to_list given.unit

abbrev pub begins : Part → Bool
begins Begins = true
begins _ = false

-- Which bytes may be begun: none of a code table, the beginning of a sequence in UTF-8, and in UTF-16 a byte,
-- or a high surrogate with or without a byte behind it.
abbrev pub is_begun : Encoding → Begun → Bool
is_begun (encodings.Bytes table set) Nothing = true
is_begun (encodings.Bytes table set) _ = false
is_begun encodings.Utf8 begun = begins (part_of (begun_bytes begun))
is_begun (encodings.Utf16 order) (Two a b) = is_high (code_unit order a b)
is_begun (encodings.Utf16 order) (Three a b c) = is_high (code_unit order a b)
is_begun (encodings.Utf16 order) _ = true

abbrev pub IsBegun : Encoding → Begun → Type 0
IsBegun encoding begun = is_begun encoding begun ≡ true

-- a byte behind what is begun
pub record Steps (encoding : Encoding) (begun : Begun) (byte : ℕ) (new : Begun) (given : Given) : Type 0 where
  pub same : (more : List ℕ) → units encoding (begun_bytes begun ++ byte ∷ more)
      ≡ given_units given ++ units encoding (begun_bytes new ++ more)
  pub goes_on : IsBegun encoding new
