use Rattle.std.proofs.Common.{◌≡◌, ℕ, zero, suc, ◌-◌, ◌<◌, ◌∙◌, ◌++◌, [], ◌∷◌, List, length, get_or, arith}
use Rattle.std.proofs.lemmas.List.{get_or_append_left}
use Rattle.std.proofs.lemmas.Simd.{get_or-chunk, length-chunk}
use Rattle.vp_dots.proofs.EndForEnd.{nibbles_apart, pairs_apart, ones_apart, word_reversed}
use Rattle.vp_dots.proofs.reversed.reversed_at.Goals as goal

pub swapped-halves-requires-clause-apart : goal.swapped-halves-requires-clause-apart
swapped-halves-requires-clause-apart c = nibbles_apart

pub swapped-pairs-requires-clause-apart : goal.swapped-pairs-requires-clause-apart
swapped-pairs-requires-clause-apart c = pairs_apart

pub swapped-requires-clause-apart : goal.swapped-requires-clause-apart
swapped-requires-clause-apart c = ones_apart

-- eight lanes in the other order
backward : (xs ys : List ℕ) → length xs ≡ 8 → (k : ℕ) → k < 8
    → get_or (get_or (xs ++ ys) 7 0 ∷ get_or (xs ++ ys) 6 0 ∷ get_or (xs ++ ys) 5 0 ∷ get_or (xs ++ ys) 4 0 ∷ get_or (xs ++ ys) 3 0 ∷ get_or (xs ++ ys) 2 0 ∷ get_or (xs ++ ys) 1 0 ∷ get_or (xs ++ ys) 0 0 ∷ []) k 0 ≡ get_or xs (7 - k) 0
backward xs ys e zero h = get_or_append_left xs ys 0 7 (omega (arith, e))
backward xs ys e (suc zero) h = get_or_append_left xs ys 0 6 (omega (arith, e))
backward xs ys e (suc (suc zero)) h = get_or_append_left xs ys 0 5 (omega (arith, e))
backward xs ys e (suc (suc (suc zero))) h = get_or_append_left xs ys 0 4 (omega (arith, e))
backward xs ys e (suc (suc (suc (suc zero)))) h = get_or_append_left xs ys 0 3 (omega (arith, e))
backward xs ys e (suc (suc (suc (suc (suc zero))))) h = get_or_append_left xs ys 0 2 (omega (arith, e))
backward xs ys e (suc (suc (suc (suc (suc (suc zero)))))) h = get_or_append_left xs ys 0 1 (omega (arith, e))
backward xs ys e (suc (suc (suc (suc (suc (suc (suc zero))))))) h = get_or_append_left xs ys 0 0 (omega (arith, e))
backward xs ys e (suc (suc (suc (suc (suc (suc (suc (suc k)))))))) h = absurd (omega arith)

pub returns : goal.returns
returns c =
    let i = c.args.i in
    let row = c.args.row.now in
    word_reversed i row _ c.word_of-bytes.result c.swapped-halves.result c.swapped-pairs.result c.swapped.result
    (λ k h. backward _ _ (length-chunk i 8 row c.requires) k h ∙ get_or-chunk i 8 row (7 - k) 0 (omega arith))
    c.word_of-bytes.ensures c.swapped-halves.ensures c.swapped-pairs.ensures c.swapped.ensures
