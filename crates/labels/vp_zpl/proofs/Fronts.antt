-- Codes that are looked at sixteen at a time.
use Rattle.std.proofs.Common.{◌≡◌, ℕ, ◌+◌, ◌%◌, ◌^◌, ◌<◌, ◌≤◌, true, false, not, ◌||◌, Bool, cond, eqb, get_or, List, [], ◌∷◌, drop, length, map, sym, ap, ◌∙◌, refl, arith}
use Rattle.std.proofs.lemmas.Bool.{agree_below, agree_below_at, eq-eqb, ne_eqb}
use Rattle.std.proofs.lemmas.List.{length-map}
use Rattle.std.proofs.lemmas.List.Folds.{prefix_len-append}
use Rattle.std.proofs.lemmas.List.Sums.{prefix_len-le-length, prefix_len_is}
use Rattle.std.proofs.lemmas.Simd.{map-map, mask_l-mod, length-chunk, get_or-chunk, chunk-drop, first_set_mask_l, none_from_empty_mask}
use Rattle.std.specs.Simd.Lanes.{chunk, mask_l, top, Each1}
use Rattle.std.specs.List.{prefix_len}
use Rattle.std.specs.Int.{w64, trailing_zeros}
use Rattle.vp_zpl.specs.Runs.{is_kept_code}

-- tests that agree of each byte count the same
same_front : (f g : ℕ → Bool) (bytes : List ℕ) → agree_below f g 256 ≡ true → Each1 (λ b. b < 256) bytes → prefix_len f bytes ≡ prefix_len g bytes
same_front f g [] all few = refl
same_front f g (b ∷ bytes) all few =
    ap (λ t. cond t (1 + prefix_len f bytes) 0) (agree_below_at f g 256 b all few.0) ∙ ap (λ n. cond (g b) (1 + n) 0) (same_front f g bytes all few.1)

-- by the first lane at which the top bit is set
pub counted : (f : ℕ → ℕ) (bytes lanes : List ℕ) (at r : ℕ) → at + 16 ≤ length bytes → lanes ≡ map f (chunk at 16 bytes) → r ≡ cond (eqb (mask_l (map (top 7) lanes) % 2 ^ 64) 0) 16 (trailing_zeros w64 (mask_l (map (top 7) lanes) % 2 ^ 64))
    → agree_below (λ b. not (top 7 (f b))) is_kept_code 256 ≡ true → Each1 (λ b. b < 256) (chunk at 16 bytes) → r ≡ prefix_len is_kept_code (chunk at 16 bytes)
counted f bytes lanes at r room is found all few =
    let v = chunk at 16 bytes in let stops : ℕ → Bool = λ b. top 7 (f b) in let long = length-chunk at 16 bytes room in
    found ∙ ap (λ m. cond (eqb m 0) 16 (trailing_zeros w64 m)) (ap (λ l. mask_l l % 2 ^ 64) (ap (map (top 7)) is ∙ map-map (top 7) f v) ∙ mask_l-mod (map stops v) 64 (omega (arith, length-map v stops, long)))
    ∙ first_set_mask_l stops v 16 long (omega arith) ∙ same_front (λ b. not (stops b)) is_kept_code v all few

-- of the next sixteen no more are counted
pub few : (bytes : List ℕ) (at r : ℕ) → at + 16 ≤ length bytes → r ≡ prefix_len is_kept_code (chunk at 16 bytes) → r ≤ 16
few bytes at r room counted = omega (arith, counted, length-chunk at 16 bytes room, prefix_len-le-length is_kept_code (chunk at 16 bytes))

split_at : (bytes : List ℕ) (at n : ℕ) (t : Bool) → at + n ≤ length bytes → eqb (prefix_len is_kept_code (chunk at n bytes)) (length (chunk at n bytes)) ≡ t
    → prefix_len is_kept_code (drop at bytes) ≡ cond t (n + prefix_len is_kept_code (drop (at + n) bytes)) (prefix_len is_kept_code (chunk at n bytes))
split_at bytes at n t room e =
    let v = chunk at n bytes in let later = prefix_len is_kept_code (drop (at + n) bytes) in
    ap (prefix_len is_kept_code) (chunk-drop at n bytes) ∙ prefix_len-append is_kept_code v (drop (at + n) bytes) ∙ ap (λ s. cond s (length v + later) (prefix_len is_kept_code v)) e
    ∙ ap (λ m. cond t (m + later) (prefix_len is_kept_code v)) (length-chunk at n bytes room)

-- the first that isn't one is among them
pub stops : (bytes : List ℕ) (at r : ℕ) → at + 16 ≤ length bytes → r ≡ prefix_len is_kept_code (chunk at 16 bytes) → r < 16 → prefix_len is_kept_code (drop at bytes) ≡ r
stops bytes at r room counted l =
    split_at bytes at 16 false room (ne_eqb _ _ (λ e. omega (arith, e, length-chunk at 16 bytes room, counted, l))) ∙ sym counted

-- or all of them are
pub all_go_on : (bytes : List ℕ) (at n : ℕ) → at + n ≤ length bytes → prefix_len is_kept_code (chunk at n bytes) ≡ n → prefix_len is_kept_code (drop at bytes) ≡ n + prefix_len is_kept_code (drop (at + n) bytes)
all_go_on bytes at n room all = split_at bytes at n true room (eq-eqb _ _ (omega (arith, length-chunk at n bytes room, all)))

pub goes_on : (bytes : List ℕ) (at r : ℕ) → at + 16 ≤ length bytes → r ≡ prefix_len is_kept_code (chunk at 16 bytes) → 16 ≤ r → prefix_len is_kept_code (drop at bytes) ≡ 16 + prefix_len is_kept_code (drop (at + 16) bytes)
goes_on bytes at r room counted g = all_go_on bytes at 16 room (omega (arith, few bytes at r room counted, counted, g))

-- where another test is true at no lane, which is so of each byte that is none
pub all_kept : (f : ℕ → ℕ) (bytes lanes : List ℕ) (at n : ℕ) → at + n ≤ length bytes → n ≤ 64 → lanes ≡ map f (chunk at n bytes) → mask_l (map (top 7) lanes) % 2 ^ 64 ≡ 0 → agree_below (λ b. top 7 (f b) || is_kept_code b) (λ _. true) 256 ≡ true
    → ((i : ℕ) → get_or bytes i 0 < 256) → prefix_len is_kept_code (chunk at n bytes) ≡ n
all_kept f bytes lanes at n room few is none all fits =
    let v = chunk at n bytes in let test : ℕ → Bool = λ b. top 7 (f b) in let long = length-chunk at n bytes room in
    let kept : (k : ℕ) → k < n → is_kept_code (get_or bytes (at + k) 0) ≡ true = λ k l. sym (ap (λ s. s || is_kept_code (get_or bytes (at + k) 0))
    (none_from_empty_mask test bytes at n 0 room (sym (ap (λ l. mask_l l % 2 ^ 64) (ap (map (top 7)) is ∙ map-map (top 7) f v) ∙ mask_l-mod (map test v) 64 (omega (arith, length-map v test, long))) ∙ none) (at + k)
    (omega arith) (omega (arith, l)))) ∙ agree_below_at (λ b. test b || is_kept_code b) (λ _. true) 256 (get_or bytes (at + k) 0) all (fits (at + k)) in
    prefix_len_is is_kept_code v n 0 (omega (arith, long)) (λ k l. ap is_kept_code (get_or-chunk at n bytes k 0 l) ∙ kept k l) (λ l. absurd (omega (arith, long, l)))
