-- Numbers in digits.
use Rattle.std.proofs.Common.{◌≡◌, ℕ, ◌+◌, ◌-◌, ◌*◌, ◌^◌, ◌<◌, ◌≤◌, min, IsTrue, arith, List, length, take, get_or}
use Rattle.std.proofs.lemmas.Int.Digits.{digits_value_more}
use Rattle.std.proofs.lemmas.List.Sums.{prefix_len_passes}
use Rattle.std.specs.List.{prefix_len}
use Rattle.std.specs.Str.Parse.{digits_value}
use Rattle.vp_font.specs.Words.{digit}

-- what is counted in all are digits
pub all_digits : (text : List ℕ) (n i : ℕ) → n ≡ prefix_len digit text → length text ≤ n → i < length text → IsTrue (digit (get_or text i 0))
all_digits text n i e m l = grind (arith, prefix_len_passes)

-- one more digit, where a number that is too great counts as the greatest one
pub value_more : (digits : List ℕ) (i v m d r : ℕ) → i < length digits → IsTrue (digit (get_or digits i 0)) → v ≡ min (digits_value 10 (take i digits)) (2 ^ 32 - 1)
    → m ≡ min (v * 10) (2 ^ 32 - 1) → d ≡ get_or digits i 0 - 48 → r ≡ min (m + d) (2 ^ 32 - 1) → r ≡ min (digits_value 10 (take (i + 1) digits)) (2 ^ 32 - 1)
value_more digits i v m d r l t e e1 e2 e3 = grind (arith, digits_value_more)
