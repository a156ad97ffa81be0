-- Dots drawn at another width.
use Rattle.std.proofs.Common.{◌≡◌, ℕ, ◌+◌, ◌-◌, ◌*◌, ◌/◌, ◌<◌, ◌≤◌, Bool, true, false, ltb, leb, ◌&&◌, refl, arith, List, ℤ}
use Rattle.std.proofs.lemmas.Bool.{lt-ltb, le-leb}
use Rattle.std.proofs.lemmas.Bool.Decides.{nat_tests}
use Rattle.vp_dots.specs.Dots.{shifted, span}
use Rattle.vp_dots.specs.Painting.{Painted}
use Rattle.vp_dots.specs.declared.Op.{Op}

-- a quotient by its bounds
pub quotient : (a w s : ℕ) → 0 < w → s * w ≤ a → a < (s + 1) * w → a / w ≡ s
quotient a w s p l h = grind arith

-- where dot s of n begins, drawn w wide in all
abbrev pub edge_at : ℕ → ℕ → ℕ → ℕ
edge_at n w s = (s * w + (n - 1)) / n

pub from_edge : (n w s u : ℕ) → 0 < n → edge_at n w s ≤ u → s * w ≤ u * n
from_edge n w s u p l = grind arith

pub before_edge : (n w s u : ℕ) → 0 < n → u < edge_at n w s → u * n < s * w
before_edge n w s u p l = grind arith

pub edge_more : (n w s : ℕ) → 0 < n → edge_at n w s ≤ edge_at n w (s + 1)
edge_more n w s p = grind arith

pub edge_last : (n w : ℕ) → 0 < n → edge_at n w n ≡ w
edge_last n w p = grind arith

pub edge_within : (n w s : ℕ) → 0 < n → s ≤ n → edge_at n w s ≤ w
edge_within n w s p l = grind arith

-- n dots from a place on, drawn so wide in all
abbrev pub ink : ℕ → (ℕ → Bool) → ℕ → ℕ → ℕ → Bool
ink n glyph left width x = leb left x && ltb (x - left) width && glyph ((x - left) * n / width)

pub ink_is : (n : ℕ) (glyph : ℕ → Bool) (left width s x : ℕ) → 0 < n → s < n → left + edge_at n width s ≤ x → x < left + edge_at n width (s + 1) → ink n glyph left width x ≡ glyph s
ink_is n glyph left width s x p k l h =
    let inside = edge_within n width (s + 1) p (omega arith) in
    let low = from_edge n width s (x - left) p (omega arith) in
    let high = before_edge n width (s + 1) (x - left) p (omega arith) in
    let q : (x - left) * n / width ≡ s = quotient ((x - left) * n) width s (omega arith) low high in
    rw (le-leb left x (omega arith), lt-ltb (x - left) width (omega arith), q) refl

module _ (op : Op) (at : ℤ) (n : ℕ) (glyph : ℕ → Bool) (left width : ℕ) where
  -- the dots before s: all before the run is painted, and the run is all ink
  pub record Running (s from to : ℕ) (a b : List ℕ) : Type 0 where
    pub edge_is : to ≡ left + edge_at n width s
    pub run : from ≤ to
    pub solid : (x : ℕ) → from ≤ x → x < to → ink n glyph left width x ≡ true
    pub painted : Painted op (shifted at (λ x. ltb x from && ink n glyph left width x)) a b

  module _ (p : 0 < n) where
    pub running_none : (a : List ℕ) → Running 0 left left a a
    running_none a = grind arith

    -- a black dot more
    pub running_on : (s from to next : ℕ) (a b : List ℕ) → s < n → Running s from to a b → next ≡ left + edge_at n width (s + 1) → glyph s ≡ true → Running (s + 1) from next a b
    running_on s from to next a b l r e t = grind (arith, ink_is)

    -- a white dot more
    pub running_off : (s from to next : ℕ) (a b c : List ℕ) → s < n → Running s from to a b → Painted op (shifted at (span from to)) b c → next ≡ left + edge_at n width (s + 1) → glyph s ≡ false
        → Running (s + 1) next next a c
    running_off s from to next a b c l r q e t = grind (arith, nat_tests, edge_more, ink_is)

    -- all dots
    pub running_all : (s from to : ℕ) (a b c : List ℕ) → s ≡ n → Running s from to a b → Painted op (shifted at (span from to)) b c → Painted op (shifted at (ink n glyph left width)) a c
    running_all s from to a b c l r q = grind (arith, nat_tests, edge_last)
