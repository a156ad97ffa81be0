use Rattle.std.proofs.Common.{◌≡◌, ℕ, ◌+◌, ◌*◌, ◌%◌, ◌<◌, ◌≤◌, length, get_or}
use Rattle.vp_pdf417.specs.Places.{cut}
use Rattle.vp_pdf417.specs.Written.{IsNumber}
use Rattle.vp_pdf417.proofs.numeric.push_digit.Given as goal

abbrev pub invariant-loop-k : goal.invariant-loop-k
invariant-loop-k l = record {
  long : length l.places ≡ 15;
  done : (t : ℕ) → IsNumber t l.fn.places → (j : ℕ) → j < l.k → get_or l.places j 0 ≡ cut (10 * t + l.digit) j % 900;
  carried : (t : ℕ) → IsNumber t l.fn.places → cut (10 * t + l.digit) l.k ≡ 10 * cut t l.k + l.carry;
  left : (j : ℕ) → l.k ≤ j → get_or l.places j 0 ≡ get_or l.fn.places j 0;
  small : (j : ℕ) → get_or l.places j 0 < 900;
  few : l.carry < 16;
}
