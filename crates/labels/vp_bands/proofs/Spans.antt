-- The rows and the bands that a box meets.
use Rattle.std.proofs.Common.{◌≡◌, ℕ, zero, suc, ◌+◌, ◌-◌, ◌*◌, ◌/◌, ◌<◌, ◌≤◌, Bool, true, ◌&&◌, inl, inr, nat_le, nat_lt, sym, arith, max}
use Rattle.std.proofs.lemmas.Bool.{true≢false, cases_Bool}
use Rattle.std.proofs.lemmas.Bool.Decides.{nat_tests}
use Rattle.std.specs.List.{list_any, range_with_len}
use Rattle.std.proofs.lemmas.List.Folds.{list_any_at}
use Rattle.std.proofs.lemmas.List.FromFn.{length-range_with_len, get_or-range_with_len}

-- the rows of a box from one to another, and those of the label
pub clamped_rows : (y size from to : ℕ) (a b i : Bool) → to ≤ size → (y < size → nat_le from y ≡ a) → (y < size → nat_lt y to ≡ b) → (a && b) ≡ i
    → (nat_lt y size && i) ≡ (nat_le from y && nat_lt y to)
clamped_rows y size from to a b i within p q both = grind arith

-- a row that passes, where one of some does
pub any_row : (p : ℕ → Bool) (a n : ℕ) → list_any p (range_with_len a n) ≡ true → (y : ℕ) × (a ≤ y) × (y < a + n) × (p y ≡ true)
any_row p a zero e = absurd (true≢false (sym e))
any_row p a (suc n) e = elim (cases_Bool (p a)) [
  | inl here ↦ (a, omega arith, omega arith, here)
  | inr not ↦ let r = any_row p (a + 1) n (rw not at e) in (r.0, omega (arith, r.1), omega (arith, r.2), r.3)
]

pub row_any : (p : ℕ → Bool) (a n y : ℕ) → a ≤ y → y < a + n → p y ≡ true → list_any p (range_with_len a n) ≡ true
row_any p a n y from to e =
    let at : y - a < n = omega arith in
    let here : a + (y - a) ≡ y = omega arith in
    list_any_at p (range_with_len a n) (y - a) 0 (rw length-range_with_len at) (rw (get_or-range_with_len a n (y - a) 0 at, here) e)

-- the bands of rows from <= y < to
pub bands_met : (p : ℕ → Bool) (from to b : ℕ) → ((y : ℕ) → p y ≡ (nat_le from y && nat_lt y to)) → from < to
    → (nat_le (from / 32) b && nat_le b ((to - 1) / 32)) ≡ list_any p (range_with_len (32 * b) 32)
bands_met p from to b is some = elim (cases_Bool (list_any p (range_with_len (32 * b) 32))) [
  | inl found ↦ let r = any_row p (32 * b) 32 found in grind (arith, nat_tests, is r.0)
  | inr gone ↦ let y = max from (32 * b) in grind (arith, nat_tests, is y, row_any p (32 * b) 32 y)
]

pub no_band_met : (p : ℕ → Bool) (from to b : ℕ) → ((y : ℕ) → p y ≡ (nat_le from y && nat_lt y to)) → to ≤ from
    → (nat_le 1 b && nat_le b 0) ≡ list_any p (range_with_len (32 * b) 32)
no_band_met p from to b is none = elim (cases_Bool (list_any p (range_with_len (32 * b) 32))) [
  | inl found ↦ let r = any_row p (32 * b) 32 found in grind (arith, nat_tests, is r.0)
  | inr gone ↦ grind (arith, nat_tests)
]
