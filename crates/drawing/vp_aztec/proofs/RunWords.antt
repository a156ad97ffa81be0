-- Runs of bytes, byte by byte.
use Rattle.std.proofs.Common.{◌≡◌, ℕ, zero, suc, ◌+◌, ◌-◌, ◌<◌, ◌≤◌, true, false, List, [], ◌∷◌, length, take, drop, refl, sym, ap, ◌∙◌, arith, length-drop, drop-drop}
use Rattle.std.specs.List.{list_all}
use Rattle.std.proofs.lemmas.List.{take_rest}
use Rattle.vp_aztec.specs.Characters.{is_text}
use Rattle.vp_aztec.specs.Runs.{run}

run_step : (n : ℕ) (xs : List ℕ) → 0 < length xs → list_all is_text (take 5 xs) ≡ false → run (suc n) xs ≡ 1 + run n (drop 1 xs)
unfolding run
run_step n [] h off = absurd (omega arith)
run_step n (x ∷ xs) h off = rw off refl

run_on : (n : ℕ) (xs : List ℕ) → list_all is_text (take 5 xs) ≡ true → run n xs ≡ 0
unfolding run
run_on zero xs on = refl
run_on (suc n) [] on = refl
run_on (suc n) (x ∷ xs) on = rw on refl

run_empty : (n : ℕ) (xs : List ℕ) → length xs ≤ 0 → run n xs ≡ 0
unfolding run
run_empty zero xs h = refl
run_empty (suc n) [] h = refl
run_empty (suc n) (x ∷ xs) h = absurd (omega arith)

-- a byte more from place k on, and none
pub run_more : (n k : ℕ) (xs : List ℕ) → k < n → k < length xs → list_all is_text (take 5 (take (length xs - k) (drop k xs))) ≡ false
    → run (n - k) (drop k xs) ≡ 1 + run (n - (k + 1)) (drop (k + 1) xs)
run_more n k xs lt some off =
    let e : n - k ≡ suc (n - (k + 1)) = omega arith in
    ap (λ m. run m (drop k xs)) e
    ∙ run_step (n - (k + 1)) (drop k xs) (omega (arith, length-drop k xs)) (ap (λ (l : List ℕ). list_all is_text (take 5 l)) (sym (take_rest xs k)) ∙ off)
    ∙ ap (λ (l : List ℕ). 1 + run (n - (k + 1)) l) (drop-drop 1 k xs)

pub run_over : (n k : ℕ) (xs : List ℕ) → list_all is_text (take 5 (take (length xs - k) (drop k xs))) ≡ true → run (n - k) (drop k xs) ≡ 0
run_over n k xs on = run_on (n - k) (drop k xs) (ap (λ (l : List ℕ). list_all is_text (take 5 l)) (sym (take_rest xs k)) ∙ on)

pub run_past : (n k : ℕ) (xs : List ℕ) → length xs ≤ k → run (n - k) (drop k xs) ≡ 0
run_past n k xs h = run_empty (n - k) (drop k xs) (omega (arith, length-drop k xs))

pub run_end : (n k : ℕ) (xs : List ℕ) → n ≤ k → run (n - k) (drop k xs) ≡ 0
unfolding run
run_end n k xs h =
    let e : n - k ≡ 0 = omega arith in
    rw e refl
