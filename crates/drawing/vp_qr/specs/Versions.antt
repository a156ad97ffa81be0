-- Which version a message takes (ISO/IEC 18004, 7.4 and table 7).
use Rattle.std.specs.Prelude.{ℕ, ◌*◌, ◌≤◌, nat_le, Bool, length, List, [], ◌∷◌, Option, find}
use Rattle.vp_qr.specs.declared.level.Level.{Level}
use Rattle.vp_qr.specs.declared.segment.Kind.{Kind}
use Rattle.vp_qr.specs.Segments.{message}
use Rattle.vp_qr.specs.Blocks.{capacity}

abbrev pub versions : List ℕ
versions = 1 ∷ 2 ∷ 3 ∷ 4 ∷ 5 ∷ 6 ∷ 7 ∷ 8 ∷ 9 ∷ 10 ∷ []

-- the message fits the data codewords of a version
unfoldable pub fits : Level → Kind → List ℕ → ℕ → Bool
fits level kind src version = nat_le (length (message kind version src)) (8 * capacity level version)

-- the smallest version that fits, if one does
unfoldable pub smallest : Level → Kind → List ℕ → Option ℕ
smallest level kind src = find (fits level kind src) versions

-- a version within range, whose data codewords have room for the message
pub record Holds (level : Level) (kind : Kind) (src : List ℕ) (version : ℕ) : Type 0 where
  pub low : 1 ≤ version
  pub high : version ≤ 10
  pub room : length (message kind version src) ≤ 8 * capacity level version
