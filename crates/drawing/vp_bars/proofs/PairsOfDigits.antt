-- Digits two by two.
use Rattle.std.proofs.Common.{◌≡◌, ℕ, ◌+◌, ◌*◌, ◌/◌, ◌<◌, ◌≤◌, List, [], ◌∷◌, ◌++◌, length, get_or, drop, sym, ap, ◌∙◌, append_assoc, arith}
use Rattle.std.proofs.lemmas.List.{drop_more, length-drop, append-nil}
use Rattle.vp_bars.specs.Interleaved.{pairs_of}

-- one more pair
pub pairs_more : (ds vs : List ℕ) (k : ℕ) → k < length ds / 2 → pairs_of ds ≡ vs ++ pairs_of (drop (2 * k) ds)
    → pairs_of ds ≡ (vs ++ (10 * get_or ds (2 * k) 0 + get_or ds (2 * k + 1) 0) ∷ []) ++ pairs_of (drop (2 * (k + 1)) ds)
pairs_more ds vs k h e =
    let one : drop (2 * k) ds ≡ get_or ds (2 * k) 0 ∷ drop (2 * k + 1) ds = drop_more ds (2 * k) 0 (omega arith) in
    let two : drop (2 * k + 1) ds ≡ get_or ds (2 * k + 1) 0 ∷ drop (2 * k + 1 + 1) ds = drop_more ds (2 * k + 1) 0 (omega arith) in
    let n : 2 * k + 1 + 1 ≡ 2 * (k + 1) = omega arith in
    e ∙ ap (λ xs. vs ++ pairs_of xs) (one ∙ ap (λ xs. get_or ds (2 * k) 0 ∷ xs) (two ∙ ap (λ i. get_or ds (2 * k + 1) 0 ∷ drop i ds) n))
    ∙ sym (append_assoc vs ((10 * get_or ds (2 * k) 0 + get_or ds (2 * k + 1) 0) ∷ []) (pairs_of (drop (2 * (k + 1)) ds)))

-- fewer than two are none
few : (xs : List ℕ) → length xs < 2 → pairs_of xs ≡ []
few xs h = grind arith

-- all pairs
pub pairs_done : (ds vs : List ℕ) (k : ℕ) → length ds / 2 ≤ k → pairs_of ds ≡ vs ++ pairs_of (drop (2 * k) ds) → pairs_of ds ≡ vs
pairs_done ds vs k h e = e ∙ ap (λ xs. vs ++ xs) (few (drop (2 * k) ds) (omega (arith, length-drop (2 * k) ds))) ∙ append-nil vs
