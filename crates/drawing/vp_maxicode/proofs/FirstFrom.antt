-- The first number that passes a test, as it is looked for.
use Rattle.std.proofs.Common.{◌≡◌, ℕ, suc, ◌+◌, ◌-◌, ◌<◌, Bool, true, false, cond, arith, refl, sym, ap, ◌∙◌, Option, Some}
use Rattle.vp_maxicode.specs.Places.{first_from}

-- one number less is left of those below `end`
first_more : (p : ℕ → Bool) (k end : ℕ) → k < end → first_from p k (end - k) ≡ cond (p k) (Some k) (first_from p (k + 1) (end - (k + 1)))
first_more p k end lt =
    let e : end - k ≡ suc (end - (k + 1)) = omega arith in
    rw e refl

-- a number that doesn't pass is left behind, and one that does is the answer
pub first_step : (p : ℕ → Bool) (k end : ℕ) (target : Option ℕ) → k < end → p k ≡ false → first_from p k (end - k) ≡ target → first_from p (k + 1) (end - (k + 1)) ≡ target
first_step p k end target lt off h =
    ap (λ (b : Bool). cond b (Some k) (first_from p (k + 1) (end - (k + 1)))) (sym off) ∙ sym (first_more p k end lt) ∙ h

pub first_found : (p : ℕ → Bool) (k end : ℕ) (target : Option ℕ) → k < end → p k ≡ true → first_from p k (end - k) ≡ target → Some k ≡ target
first_found p k end target lt on h =
    ap (λ (b : Bool). cond b (Some k) (first_from p (k + 1) (end - (k + 1)))) (sym on) ∙ sym (first_more p k end lt) ∙ h
