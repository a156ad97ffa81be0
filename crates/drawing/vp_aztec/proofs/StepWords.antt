-- Steps, one by one.
use Rattle.std.proofs.Common.{◌≡◌, ℕ, zero, suc, ◌+◌, ◌-◌, ◌<◌, ◌≤◌, List, [], ◌∷◌, ◌++◌, length, take, drop, refl, sym, ap, ◌∙◌, arith, get_or, Some, None}
use Rattle.std.proofs.lemmas.List.{take_rest}
use Rattle.vp_aztec.specs.declared.mode.Mode.{Mode}
use Rattle.vp_aztec.specs.declared.mode.Mode.TheVariants.{Upper, Lower, Mixed, Punct, Digit}
use Rattle.vp_aztec.specs.Messages.{pair_in, step, steps}
use Rattle.vp_aztec.specs.Characters.{pair_value}

steps_more : (n k : ℕ) (mode : Mode) (xs : List ℕ) → k < n → 0 < length xs
    → steps (n - k) mode xs ≡ (step mode xs).codes ++ steps (n - (k + 1)) (step mode xs).mode (drop (step mode xs).taken xs)
unfolding steps
steps_more n k mode [] h some = absurd (omega arith)
steps_more n k mode (x ∷ xs) h some =
    let e : n - k ≡ suc (n - (k + 1)) = omega arith in
    rw e refl

-- with what is left as the code has it
pub steps_step : (n k : ℕ) (mode to : Mode) (taken : ℕ) (xs : List ℕ) → k < n → 0 < length xs → to ≡ (step mode xs).mode → taken ≡ (step mode xs).taken
    → steps (n - k) mode xs ≡ (step mode xs).codes ++ steps (n - (k + 1)) to (take (length xs - taken) (drop taken xs))
steps_step n k mode to taken xs h some em et =
    rw (em, et) (steps_more n k mode xs h some ∙ ap (λ (l : List ℕ). (step mode xs).codes ++ steps (n - (k + 1)) (step mode xs).mode l) (sym (take_rest xs (step mode xs).taken)))

pub steps_none : (n : ℕ) (mode : Mode) (xs : List ℕ) → length xs ≤ 0 → steps n mode xs ≡ []
unfolding steps
steps_none zero mode xs h = refl
steps_none (suc n) mode [] h = refl
steps_none (suc n) mode (x ∷ xs) h = absurd (omega arith)

pub steps_end : (n k : ℕ) (mode : Mode) (xs : List ℕ) → n ≤ k → steps (n - k) mode xs ≡ []
unfolding steps
steps_end n k mode xs h =
    let e : n - k ≡ 0 = omega arith in
    rw e refl

none_some : (v : ℕ) → None ≡ Some v → ⊥
none_some v e = grind arith

-- a pair is of two bytes
pub pair_long : (xs : List ℕ) (v : ℕ) → pair_value (get_or xs 0 0) (get_or xs 1 0) ≡ Some v → 2 ≤ length xs
unfolding pair_value
pair_long [] v e = absurd (none_some v e)
pair_long (x ∷ []) v e = absurd (none_some v e)
pair_long (x ∷ y ∷ xs) v e = omega arith

pub pair_in_long : (mode : Mode) (xs : List ℕ) (v : ℕ) → pair_in mode (get_or xs 0 0) (get_or xs 1 0) ≡ Some v → 2 ≤ length xs
pair_in_long Upper xs v e = absurd (none_some v e)
pair_in_long Lower xs v e = absurd (none_some v e)
pair_in_long Mixed xs v e = absurd (none_some v e)
pair_in_long Punct xs v e = pair_long xs v e
pair_in_long Digit xs v e = absurd (none_some v e)
