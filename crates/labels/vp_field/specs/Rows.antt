-- Rows of pictures (ZPL II, ^GF).
use Rattle.std.specs.Prelude.{◌≡◌, ℕ, ◌*◌, ◌<◌, Bool, true, nat_eq, ◌&&◌, List, length}
use Rattle.std.proofs.lemmas.Bool.{and_parts, eqb-true}
use Rattle.vp_dots.specs.Dots.{dot}
use Rattle.vp_dots.proofs.Rows.{dot_inside}

-- the ink of row `only` alone
abbrev pub row_dot : List ℕ → ℕ → ℕ → ℕ → Bool
row_dot bytes only x y = nat_eq y only && dot bytes x

-- there is none outside
pub row_inside : (bytes : List ℕ) (only rows x y : ℕ) → only < rows → row_dot bytes only x y ≡ true
    → (x < 8 * length bytes) × (y < rows)
row_inside bytes only rows x y l e =
    let p = and_parts _ _ e in
    (dot_inside bytes x p.1, rw (eqb-true y only p.0) l)
