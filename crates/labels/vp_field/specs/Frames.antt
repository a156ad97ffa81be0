-- Boxes (ZPL II, ^GB).
use Rattle.std.specs.Prelude.{◌≡◌, ℕ, ◌-◌, ◌<◌, Bool, true, nat_lt, nat_le, ◌&&◌, ◌||◌}
use Rattle.std.proofs.lemmas.Bool.{and_parts, ltb-true}

-- dot (x, y) of a box of w by h dots, within t dots of its edges
unfoldable pub frame_dot : ℕ → ℕ → ℕ → ℕ → ℕ → Bool
frame_dot w h t x y =
    nat_lt x w && nat_lt y h && (nat_lt x t || nat_le (w - t) x || nat_lt y t || nat_le (h - t) y)

-- there is no ink outside
pub frame_inside : (w h t x y : ℕ) → frame_dot w h t x y ≡ true → (x < w) × (y < h)
unfolding frame_dot
frame_inside w h t x y e =
    let p = and_parts _ _ e in
    let q = and_parts _ _ p.0 in
    (ltb-true x w q.0, ltb-true y h q.1)
