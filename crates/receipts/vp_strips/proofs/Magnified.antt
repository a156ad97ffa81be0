-- Characters each of whose rows is printed more than once.
use Rattle.std.proofs.Common.{◌≡◌, ℕ, ◌+◌, ◌-◌, ◌*◌, ◌/◌, ◌<◌, ◌≤◌, Bool, true, false, ltb, leb, ◌&&◌, ◌||◌, arith}
use Rattle.std.proofs.Math.Nat.{add-mul-div_right, div-lt_iff_lt-mul, le-div_iff_mul-le, suc-mul}
use Rattle.std.proofs.lemmas.Bool.{cases_lt, lt-ltb, le-ltb, lt-leb, le-leb}
use Rattle.std.proofs.lemmas.Bool.Decides.{nat_tests}
use Rattle.vp_dots.specs.Dots.{span}
use Rattle.vp_dots.specs.Words.{word_dot}

-- the line that is printed on a row
pub line_on : (w v t : ℕ) → 0 < t → v * t ≤ w → w < v * t + t → w / t ≡ v
line_on w v t p from to = grind (arith, le-div_iff_mul-le, div-lt_iff_lt-mul, suc-mul)

pub past_lines : (w n t : ℕ) → 0 < t → n * t ≤ w → n ≤ w / t
past_lines w n t p from = (le-div_iff_mul-le {k = t} {x = n} {y = w} p).1 from

-- dots that are drawn once each
pub drawn_once : (word wm x : ℕ) → wm ≡ 1 → ((u : ℕ) → 12 ≤ u → word_dot word u ≡ false) → word_dot word x ≡ (ltb x (12 * wm) && word_dot word (x / wm))
drawn_once word wm x e white = grind (arith, lt-ltb, le-ltb)

-- six dots, and six behind them
module _ (at x wm : ℕ) (f : ℕ → Bool) where
  second : at ≤ x → 6 * wm ≤ x - at → x - at < 12 * wm → 6 + (x - (at + 6 * wm)) / wm ≡ (x - at) / wm
  second a g l =
      let back : x - (at + 6 * wm) + 6 * wm ≡ x - at = omega arith in
      omega (arith, rw back at (add-mul-div_right (x - (at + 6 * wm)) 6 (let some : 0 < wm = omega arith in some)))

  apart : (a b : Bool) → ((leb at x && (ltb (x - at) (6 * wm) && a)) && (leb (at + 6 * wm) x && b)) ≡ false
  apart a b = grind arith

  module _ (t r : Bool) where
    pub halves : (t && (r && (leb at x && (ltb (x - at) (12 * wm) && f ((x - at) / wm)))))
        ≡ (t && (r && (leb at x && (ltb (x - at) (6 * wm) && f (0 + (x - at) / wm)))) || t && (r && (leb (at + 6 * wm) x && (ltb (x - (at + 6 * wm)) (6 * wm) && f (6 + (x - (at + 6 * wm)) / wm)))))
    halves = grind (arith, cases_lt, lt-leb, le-leb, lt-ltb, le-ltb, second)

pub span_moved : (at wide x : ℕ) → (leb at x && ltb (x - at) wide) ≡ span at (at + wide) x
span_moved at wide x = grind (arith, nat_tests)

-- a dot of a character, or what is black behind it
pub part_placed : (at top left wide first high x k : ℕ) (r d filled c : Bool) → (d ≡ true → r ≡ true) → (span left (left + wide) (x - at) && span first (first + high) (k - top)) ≡ filled
    → (d || filled) ≡ c → (leb top k && (leb at x && c)) ≡ (leb top k && (r && (leb at x && d)) || span (top + first) (top + first + high) k && span (at + left) (at + left + wide) x)
part_placed at top left wide first high x k r d filled c e f g = grind (arith, nat_tests, apart)
