-- Lines from corner to corner (ZPL II, ^GD).
use Rattle.std.specs.Prelude.{◌≡◌, ℕ, ◌<◌, true, ◌+◌, ◌-◌, ◌*◌, ◌/◌, Bool, nat_lt, nat_le, ◌&&◌}
use Rattle.std.proofs.lemmas.Bool.{and_parts, ltb-true}
use Rattle.vp_shapes.specs.declared.diagonal.Leaning.{Leaning}
use Rattle.vp_shapes.specs.declared.diagonal.Leaning.TheVariants.{Right, Left}

-- how far the line has come in row y, from the left side in the first row to the right one in the last
abbrev pub come : ℕ → ℕ → ℕ → ℕ → ℕ
come w h t y = y * (w - t) / (h - 1)

-- where it begins in row y
abbrev pub begin : ℕ → ℕ → ℕ → Leaning → ℕ → ℕ
begin w h t Left y = come w h t y
begin w h t Right y = w - t - come w h t y

-- dot (x, y) of a line in a box of w by h dots that is t dots thick, measured along a row
unfoldable pub diagonal_dot : ℕ → ℕ → ℕ → Leaning → ℕ → ℕ → Bool
diagonal_dot w h t leaning x y = nat_lt x w && (nat_lt y h
    && (nat_le (begin w h t leaning y) x && nat_lt x (begin w h t leaning y + t)))

-- there is no ink outside
pub no_ink_outside : (w h t : ℕ) (leaning : Leaning) (x y : ℕ) → diagonal_dot w h t leaning x y ≡ true → (x < w) × (y < h)
unfolding diagonal_dot
no_ink_outside w h t leaning x y e =
    let p = and_parts _ _ e in
    let q = and_parts _ _ p.1 in
    (ltb-true x w p.0, ltb-true y h q.0)
