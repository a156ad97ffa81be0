-- Lines of a symbol's ink that show the same row.
use Rattle.std.proofs.Common.{◌≡◌, ℕ, ◌+◌, ◌*◌, ◌/◌, ◌<◌, ◌≤◌, refl, arith}
use Rattle.std.proofs.Math.Nat.{mul_comm, mul-le-mul_right, le-div_iff_mul-le, div-lt_iff_lt-mul}
use Rattle.std.proofs.lemmas.Bool.{lt-ltb}
use Rattle.vp_pdf417.specs.Encoding.{Pdf417Symbol}
use Rattle.vp_pdf417.specs.Inks.{tall, ink_of}

-- a line of the row that line y shows
pub ink_alike : (s : Pdf417Symbol) (scale high x y v : ℕ) → 0 < high → y < tall s high → (y / high) * high ≤ v → v < (y / high) * high + high
    → ink_of s scale high x v ≡ ink_of s scale high x y
ink_alike s scale high x y v h inside low above =
    let q : v / high ≡ y / high = quotient v high (y / high) h low above in
    let row : y / high < s.size.rows = (div-lt_iff_lt-mul {k = high} {x = y} {y = s.size.rows} h).1 (omega (arith, mul_comm high s.size.rows, inside)) in
    let below : v < tall s high = rows_below high s.size.rows (y / high) v row above in
    rw (q, lt-ltb v (tall s high) below, lt-ltb y (tall s high) inside) refl
  where
    quotient : (a w q : ℕ) → 0 < w → q * w ≤ a → a < q * w + w → a / w ≡ q
    quotient a w q p l h =
        let least : q ≤ a / w = (le-div_iff_mul-le {k = w} {x = q} {y = a} p).1 l in
        let most : a / w < q + 1 = (div-lt_iff_lt-mul {k = w} {x = a} {y = q + 1} p).1 (omega (arith, h)) in
        omega arith

    rows_below : (w n q v : ℕ) → q < n → v < q * w + w → v < w * n
    rows_below w n q v l h =
        let m : (q + 1) * w ≤ n * w = mul-le-mul_right w (let o : q + 1 ≤ n = omega arith in o) in
        omega (arith, m, h, mul_comm w n)
