-- Places that are filled code by code.
use Rattle.std.proofs.lemmas.Grind.{common_steps}
use Rattle.std.proofs.Common.{inl, inr, ◌≡◌, ℕ, zero, suc, ◌+◌, ◌<◌, ◌≤◌, max, ltb, bit_or, List, length, get_or, subst, sym, ap, ◌∙◌, refl, arith}
use Rattle.std.proofs.lemmas.Bool.{cases_lt}
use mir.Val.{bool_byte}
use Rattle.vp_format.specs.Codes.{code_of, Spelled}
use Rattle.vp_format.specs.Cursors.{count_value, digit_value, places_of, added, symbols_from, Filled, IsRun, IsShortCount, Put, Reached}
use Rattle.vp_format.proofs.Quick.{plain_symbol, run_symbol, run_taken, reached_same, digit_adds, behind_count}
use Rattle.vp_format.proofs.Reached.{reached_at, run_reached, run_done}
use Rattle.vp_format.proofs.Runs.{one_place, count_places}

-- fewer codes add no more
pub added_most : (codes : List ℕ) (at k n : ℕ) → k ≤ n → added codes at k ≤ added codes at n
unfolding added
added_most codes at k zero l = let e : 0 ≡ k = omega (arith, l) in subst (λ j. added codes at j ≤ added codes at 0) e (omega arith)
added_most codes at k (suc n) l = elim (cases_lt k (suc n)) [
  | inl b ↦ omega (arith, added_most codes at k n (omega (arith, b)))
  | inr g ↦ (let e : suc n ≡ k = omega (arith, l, g) in subst (λ j. added codes at j ≤ added codes at (suc n)) e (omega arith))
]

module _ (w : ℕ) (all : List Spelled) (start : ℕ) (old new : List ℕ) (from : ℕ) (codes : List ℕ) (at : ℕ) where
  -- a count, whose places but one are filled
  count_put : (k v : ℕ) → 16 ≤ digit_value (code_of (get_or codes (at + k) 0)) → IsShortCount (code_of (get_or codes (at + k) 0)) → v ≡ digit_value (code_of (get_or codes (at + suc k) 0)) → Filled (from + added codes at k) (from + added codes at k + 32) v old new
      → Reached w all start old (from + added codes at k) (symbols_from codes (at + k)) (at + k)
      → Reached w all start new (from + added codes at k) (symbols_from codes (at + k)) (at + k) × ((i : ℕ) → from + added codes at k ≤ i → i < from + added codes at (suc k) → get_or new i 0 ≡ digit_value (code_of (get_or codes (at + suc k) 0)))
  unfolding added
  count_put k v big short is f r = grind arith

  -- the digit behind it
  pair_put : (j v : ℕ) → at + suc j < length codes → get_or codes (at + j) 0 < 256 → 16 ≤ digit_value (code_of (get_or codes (at + j) 0)) → IsShortCount (code_of (get_or codes (at + j) 0)) → digit_value (code_of (get_or codes (at + suc j) 0)) < 16
      → v ≡ digit_value (code_of (get_or codes (at + suc j) 0)) → Filled (from + added codes at (suc j)) (from + added codes at (suc j) + 32) v old new → Reached w all start old (from + added codes at j) (symbols_from codes (at + j)) (at + j)
      → ((i : ℕ) → from + added codes at j ≤ i → i < from + added codes at (suc j) → get_or old i 0 ≡ digit_value (code_of (get_or codes (at + suc j) 0))) → Reached w all start new (from + added codes at (suc (suc j))) (symbols_from codes (at + suc (suc j))) (at + suc (suc j))
  unfolding added
  pair_put j v inside byte big short digit is f r before =
      let n = count_value (code_of (get_or codes (at + j) 0)) in let u = digit_value (code_of (get_or codes (at + suc j) 0)) in
      let symbol = run_symbol codes (at + j) n (at + suc j) u (max n 1) (at + suc (suc j))
      inside (omega arith) byte refl (omega (arith, short.1)) (λ _. omega arith) (λ z. absurd (omega (arith, z, short.0))) refl digit refl (omega arith) in
      grind (arith, symbol, run_reached, run_done, one_place, count_places, before)

  next_digit : (k : ℕ) → digit_value (code_of (get_or codes (at + 1 + k) 0)) < 16 → digit_value (code_of (get_or codes (at + suc k) 0)) < 16
  next_digit k h = grind (arith, h)

  next_value : (k v : ℕ) → v ≡ digit_value (code_of (get_or codes (at + 1 + k) 0)) → v ≡ digit_value (code_of (get_or codes (at + suc k) 0))
  next_value k v h = let e : at + 1 + k ≡ at + suc k = omega arith in h ∙ ap (λ i. digit_value (code_of (get_or codes i 0))) e

  -- one more code
  pub put_step : (k v : ℕ) → at + suc k < length codes → ((i : ℕ) → get_or codes i 0 < 256) → ((i : ℕ) → i < suc k → IsRun (code_of (get_or codes (at + i) 0)) (code_of (get_or codes (at + 1 + i) 0)))
      → (digit_value (code_of (get_or codes (at + k) 0)) < 16 → v ≡ digit_value (code_of (get_or codes (at + k) 0))) → (16 ≤ digit_value (code_of (get_or codes (at + k) 0)) → v ≡ digit_value (code_of (get_or codes (at + 1 + k) 0)))
      → Filled (from + added codes at k) (from + added codes at k + 32) v old new → Put w all start old from codes at k → Put w all start new from codes at (suc k)
  unfolding added Put
  put_step zero v inside few runs own next f p = grind (arith, common_steps)
  put_step (suc j) v inside few runs own next f p = grind (arith, pair_put, count_put, next_value, next_digit, one_place, reached_at, plain_symbol, run_taken)

  -- sixteen codes, and the digit behind the last of them where that is a count
  pub put_all : (n more v : ℕ) → at + 16 < length codes → ((i : ℕ) → get_or codes i 0 < 256) → ((i : ℕ) → i < 16 → IsRun (code_of (get_or codes (at + i) 0)) (code_of (get_or codes (at + 1 + i) 0)))
      → v ≡ digit_value (code_of (get_or codes (at + 16) 0)) → n ≡ from + added codes at 16 → more ≡ bool_byte (ltb 102 (bit_or (get_or codes (at + 15) 0) 32)) → Filled n (n + 32) v old new
      → Put w all start old from codes at 16 → Reached w all start new (n + more) (symbols_from codes (at + 16 + more)) (at + 16 + more)
  unfolding added Put
  put_all n more v inside few runs is place asked f p =
      let c = code_of (get_or codes (at + 15) 0) in let filled = subst (λ q. Filled q (q + 32) v old new) place f in
      elim (cases_lt (digit_value c) 16) [
        | inl d ↦ (let none : at + 15 + more ≡ at + 15 = (behind_count (get_or codes (at + 15) 0) 0 more (at + 15) (few (at + 15)) (sym (digit_adds c d)) (omega arith) asked).1 refl in
            let there : at + 16 ≡ at + 16 + more = omega (arith, none) in
            reached_at w all start new (from + added codes at 16) _ _ _ (at + 16) _ (omega (arith, place, none)) (ap (symbols_from codes) there) there (reached_same w all start old new (from + added codes at 16) _ (at + 16) filled.kept (p.0 d)))
        | inr g ↦ (let last = runs 15 (omega arith) g in
            let one : at + 15 + more ≡ at + 15 + 1 = (behind_count (get_or codes (at + 15) 0) (count_value c) more (at + 15) (few (at + 15)) refl (omega (arith, last.0.1)) asked).0 last.0.0 in
            let there : at + 17 ≡ at + 16 + more = omega (arith, one) in let digit = next_digit 15 last.1 in
            let e : added codes at 17 ≡ added codes at 16 + 1 = ap (λ q. added codes at 16 + q) (one_place (code_of (get_or codes (at + 16) 0)) digit) in
            reached_at w all start new (from + added codes at 17) _ _ _ (at + 17) _ (omega (arith, place, one, e)) (ap (symbols_from codes) there) there (pair_put 15 v inside (few (at + 15)) g last.0 digit is filled (p.1 g).0 (p.1 g).1))
      ]

-- before the first code
pub put_none : (w : ℕ) (all : List Spelled) (start : ℕ) (places : List ℕ) (from : ℕ) (codes : List ℕ) (at : ℕ) → Reached w all start places from (symbols_from codes at) at → Put w all start places from codes at 0
unfolding Put
put_none w all start places from codes at r = r

pub added_none : (codes : List ℕ) (at : ℕ) → added codes at 0 ≡ 0
unfolding added
added_none codes at = refl

pub added_more : (codes : List ℕ) (at k : ℕ) → added codes at (k + 1) ≡ added codes at k + places_of (code_of (get_or codes (at + k) 0))
unfolding added
added_more codes at k = let e : k + 1 ≡ suc k = omega arith in ap (added codes at) e
