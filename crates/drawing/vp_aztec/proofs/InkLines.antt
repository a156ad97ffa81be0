-- Lines of a symbol's ink that show the same row of modules.
use Rattle.std.proofs.Common.{◌≡◌, ℕ, ◌+◌, ◌*◌, ◌/◌, ◌<◌, ◌≤◌, refl, arith}
use Rattle.std.proofs.Math.Nat.{mul_comm, mul-le-mul_right, le-div_iff_mul-le, div-lt_iff_lt-mul}
use Rattle.std.proofs.lemmas.Bool.{lt-ltb}
use Rattle.vp_aztec.specs.Encoding.{AztecSymbol}
use Rattle.vp_aztec.specs.Places.{side}
use Rattle.vp_aztec.specs.Inks.{wide, ink_of}

-- a line of the row that line y shows
pub ink_alike : (s : AztecSymbol) (scale x y v : ℕ) → 0 < scale → y < wide s scale → (y / scale) * scale ≤ v → v < (y / scale) * scale + scale
    → ink_of s scale x v ≡ ink_of s scale x y
ink_alike s scale x y v h inside low above =
    let q : v / scale ≡ y / scale = quotient v scale (y / scale) h low above in
    let row : y / scale < side s.size = (div-lt_iff_lt-mul {k = scale} {x = y} {y = side s.size} h).1 (omega (arith, mul_comm scale (side s.size), inside)) in
    let below : v < wide s scale = rows_below scale (side s.size) (y / scale) v row above in
    rw (q, lt-ltb v (wide s scale) below, lt-ltb y (wide s scale) inside) refl
  where
    quotient : (a w q : ℕ) → 0 < w → q * w ≤ a → a < q * w + w → a / w ≡ q
    quotient a w q p l h =
        let least : q ≤ a / w = (le-div_iff_mul-le {k = w} {x = q} {y = a} p).1 l in
        let most : a / w < q + 1 = (div-lt_iff_lt-mul {k = w} {x = a} {y = q + 1} p).1 (omega (arith, h)) in
        omega arith

    rows_below : (w n q v : ℕ) → q < n → v < q * w + w → v < w * n
    rows_below w n q v l h =
        let m : (q + 1) * w ≤ n * w = mul-le-mul_right w (let o : q + 1 ≤ n = omega arith in o) in
        omega (arith, m, h, mul_comm w n)
