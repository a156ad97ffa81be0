-- Pictures whose rows are read.
use Rattle.std.proofs.Common.{◌≡◌, ℕ, zero, suc, ◌+◌, ◌<◌, true, false, inl, inr, Result, MatchResult, ap, ◌∙◌, refl, arith, below_more}
use Rattle.std.proofs.lemmas.Bool.{cases_Bool, lt-ltb}
use Rattle.std.proofs.lemmas.List.Folds.{list_any_none, list_any_at}
use Rattle.std.proofs.lemmas.List.FromFn.{length-range_with_len, get_or-range_with_len}
use Rattle.std.specs.List.{range_with_len}
use Rattle.vp_dots.specs.declared.fault.Fault.{Fault}
use Rattle.vp_dots.specs.declared.fault.Fault.TheVariants.{Graphic}
use Rattle.vp_format.specs.Pictures.{Picture, is_refused, passing}
use Rattle.vp_closing.specs.Graphics.{has_refused}

pub none_refused : (p : Picture) → ((y : ℕ) → y < p.rows → is_refused p y ≡ false) → has_refused p ≡ false
unfolding has_refused
none_refused p taken = grind (arith, list_any_none, length-range_with_len, get_or-range_with_len)

pub row_refused : (p : Picture) (y : ℕ) → y < p.rows → is_refused p y ≡ true → has_refused p ≡ true
unfolding has_refused
row_refused p y below refused =
    let place : 0 + y ≡ y = omega arith in
    list_any_at (is_refused p) (range_with_len 0 p.rows) y 0 (omega (arith, length-range_with_len 0 p.rows))
    (ap (is_refused p) (get_or-range_with_len 0 p.rows y 0 below ∙ place) ∙ refused)

-- what passing all rows answers, of which none before one is refused
passed : (p : Picture) (n y : ℕ) → y + n ≡ p.rows → ((z : ℕ) → z < y → is_refused p z ≡ false)
    → MatchResult (passing p y n) (λ _. has_refused p ≡ false) (λ why. (why ≡ Graphic) × (has_refused p ≡ true))
unfolding passing
passed p zero y all taken = none_refused p (λ z l. taken z (omega arith))
passed p (suc n) y all taken = elim (cases_Bool (is_refused p y)) [
  | inl e ↦ rw (lt-ltb y p.rows (omega arith), e) (refl, row_refused p y (omega arith) e)
  | inr e ↦ rw (lt-ltb y p.rows (omega arith), e) (passed p n (y + 1) (omega arith) (below_more (λ (z : ℕ). is_refused p z ≡ false) y taken e))
]

pub all_passed : (p : Picture) (r : Result (Unit {0}) Fault) → r ≡ passing p 0 p.rows
    → MatchResult r (λ _. has_refused p ≡ false) (λ why. (why ≡ Graphic) × (has_refused p ≡ true))
all_passed p r e = grind (arith, passed)

pub row_taken : (p : Picture) (y : ℕ) → has_refused p ≡ false → y < p.rows → is_refused p y ≡ false
row_taken p y none below = grind (arith, row_refused)
