-- Steps, one by one.
use Rattle.std.proofs.Common.{◌≡◌, ℕ, zero, suc, ◌+◌, ◌-◌, ◌<◌, ◌≤◌, List, [], ◌∷◌, ◌++◌, length, take, drop, refl, sym, ap, ◌∙◌, arith, Option}
use Rattle.std.proofs.lemmas.List.{take_rest}
use Rattle.vp_maxicode.specs.declared.set.CodeSet.{CodeSet}
use Rattle.vp_maxicode.specs.Messages.{Message, step, steps}
use Rattle.vp_maxicode.specs.Written.{written}
use Rattle.vp_maxicode.proofs.Held.{written_append}

-- a message with codewords in front
abbrev behind : List ℕ → Message → Message
behind words m = record { words = words ++ m.words; set = m.set }

steps_more : (n k : ℕ) (set : CodeSet) (xs : List ℕ) → k < n → 0 < length xs
    → steps (n - k) set xs ≡ behind (step set xs).words (steps (n - (k + 1)) (step set xs).set (drop (step set xs).taken xs))
unfolding steps
steps_more n k set [] h some = absurd (omega arith)
steps_more n k set (x ∷ xs) h some =
    let e : n - k ≡ suc (n - (k + 1)) = omega arith in
    rw e refl

-- with what is left as the code has it
steps_step : (n k : ℕ) (set to : CodeSet) (taken : ℕ) (xs : List ℕ) → k < n → 0 < length xs → to ≡ (step set xs).set → taken ≡ (step set xs).taken
    → steps (n - k) set xs ≡ behind (step set xs).words (steps (n - (k + 1)) to (take (length xs - taken) (drop taken xs)))
steps_step n k set to taken xs h some em et =
    rw (em, et) (steps_more n k set xs h some ∙ ap (λ (l : List ℕ). behind (step set xs).words (steps (n - (k + 1)) (step set xs).set l)) (sym (take_rest xs (step set xs).taken)))

-- a step is written, and the set at the end stays
pub step_written : (n k : ℕ) (set to : CodeSet) (taken : ℕ) (xs : List ℕ) (w new target : Option (List ℕ)) → k < n → 0 < length xs
    → to ≡ (step set xs).set → taken ≡ (step set xs).taken → new ≡ written w (step set xs).words
    → written w (steps (n - k) set xs).words ≡ target
    → written new (steps (n - (k + 1)) to (take (length xs - taken) (drop taken xs))).words ≡ target
step_written n k set to taken xs w new target lt some em et en h =
    let rest = (steps (n - (k + 1)) to (take (length xs - taken) (drop taken xs))).words in
    ap (λ (v : Option (List ℕ)). written v rest) en ∙ sym (written_append w (step set xs).words rest)
    ∙ ap (λ (m : Message). written w m.words) (sym (steps_step n k set to taken xs lt some em et)) ∙ h

pub step_set : (n k : ℕ) (set to : CodeSet) (taken : ℕ) (xs : List ℕ) (last : CodeSet) → k < n → 0 < length xs
    → to ≡ (step set xs).set → taken ≡ (step set xs).taken → (steps (n - k) set xs).set ≡ last
    → (steps (n - (k + 1)) to (take (length xs - taken) (drop taken xs))).set ≡ last
step_set n k set to taken xs last lt some em et h =
    ap (λ (m : Message). m.set) (sym (steps_step n k set to taken xs lt some em et)) ∙ h

pub steps_none : (n : ℕ) (set : CodeSet) (xs : List ℕ) → length xs ≤ 0 → steps n set xs ≡ record { words = []; set = set }
unfolding steps
steps_none zero set xs h = refl
steps_none (suc n) set [] h = refl
steps_none (suc n) set (x ∷ xs) h = absurd (omega arith)

pub steps_end : (n k : ℕ) (set : CodeSet) (xs : List ℕ) → n ≤ k → steps (n - k) set xs ≡ record { words = []; set = set }
unfolding steps
steps_end n k set xs h =
    let e : n - k ≡ 0 = omega arith in
    rw e refl
