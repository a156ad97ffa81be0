-- Digits of which some stand behind a count, sixteen at a time.
use Rattle.std.proofs.lemmas.Grind.{common_steps}
use Rattle.std.proofs.Common.{inl, inr, ◌≡◌, ℕ, zero, suc, ◌+◌, ◌-◌, ◌*◌, ◌/◌, ◌%◌, ◌^◌, ◌<◌, ◌≤◌, Bool, true, false, cond, ltb, eqb, ◌&&◌, bit_and, bit_or, List, [], ◌∷◌, ◌++◌, drop, length, get_or, map, replicate, subst, sym, ap, ◌∙◌, refl, arith}
use Rattle.std.proofs.Math.Seq.{take-suc}
use Rattle.std.proofs.lemmas.Bool.{cases_lt, lt-ltb, le-ltb, ltb-true, eqb-true, and_parts, agree_below_at, true≢false}
use Rattle.std.proofs.lemmas.List.{length-drop, get_or-drop, get_or-map, length-map, take_all}
use Rattle.std.proofs.lemmas.Simd.{map-map, mask_l-mod, none_from_empty_mask, zip2_splat, zip2_of_maps, splat_is_map, length-chunk, get_or-chunk, length-zip2, get_or-zip2, length-sel_l, get_or-sel_l, fold-sum, sum_dots, sum_by-ones}
use Rattle.std.specs.Simd.Lanes.{chunk, mask_l, top, zip2, sel_l, fold_l, sum_l, products, dots}
use mir.Val.{bool_byte}
use Rattle.vp_format.specs.declared.codes.Code.{Code}
use Rattle.vp_format.specs.Codes.{code_of, Spelled}
use Rattle.vp_format.specs.Cursors.{count_value, digit_value, places_of, added, symbols_from, IsRun, IsShortCount, Passed}
use Rattle.vp_format.proofs.Lanes.{less, up_to, other, value_by, sel_maps}
use Rattle.vp_format.proofs.Passed.{passed_at, digits_passed}
use Rattle.vp_format.proofs.Quick.{plain_symbol, digit_adds, behind_count}

-- the places of a digit, and of a count
pub one_place : (c : Code) → digit_value c < 16 → places_of c ≡ 1
one_place c h = ap (λ b. cond b 1 (count_value c - 1)) (lt-ltb (digit_value c) 16 h)

pub count_places : (c : Code) → 16 ≤ digit_value c → places_of c ≡ count_value c - 1
count_places c h = ap (λ b. cond b 1 (count_value c - 1)) (le-ltb (digit_value c) 16 h)

-- the test of a count at each lane
abbrev pub far : ℕ → ℕ
far b = up_to 19 (less b 71)

pub fars : (bytes : List ℕ) (at : ℕ) → at + 16 ≤ length bytes → zip2 up_to (replicate 16 19) (zip2 less (chunk at 16 bytes) (replicate 16 71)) ≡ map far (chunk at 16 bytes)
fars bytes at room = grind (arith, length-chunk, zip2_of_maps, up_to, less, splat_is_map, zip2_splat)

abbrev is_digit : ℕ → Bool
is_digit b = ltb (digit_value (code_of b)) 16

abbrev is_short : ℕ → Bool
is_short b = ltb 0 (count_value (code_of b)) && ltb (count_value (code_of b)) 20

other_is : (b : ℕ) → b < 256 → other b ≡ cond (is_digit b) 0 255
unfolding code_of
other_is b h = eqb-true _ _ (agree_below_at (λ x. eqb (other x) (cond (is_digit x) 0 255)) (λ _. true) 256 b refl h)

far_is : (b : ℕ) → b < 256 → far b ≡ cond (is_short b) 0 255
unfolding code_of
far_is b h = eqb-true _ _ (agree_below_at (λ x. eqb (far x) (cond (is_short x) 0 255)) (λ _. true) 256 b refl h)

run_by : (b c : ℕ) → b < 256 → c < 256 → top 7 (bit_and (other b) (bit_or (far b) (other c))) ≡ false → IsRun (code_of b) (code_of c)
run_by b c h l goes big = grind (arith, other, other_is, far_is, true≢false, le-ltb, and_parts, ltb-true)

-- where no lane's top bit is set
no_top : (lanes : List ℕ) (k : ℕ) → length lanes ≡ 16 → mask_l (map (top 7) lanes) % 2 ^ 64 ≡ 0 → k < 16 → top 7 (get_or lanes k 0) ≡ false
no_top lanes k long empty l = grind (arith, take_all 16 lanes, mask_l-mod (map (top 7) lanes) 64, length-map, none_from_empty_mask (top 7) lanes 0 16 0)

mapped_lane : (f : ℕ → ℕ) (bytes lanes : List ℕ) (at k : ℕ) → at + 16 ≤ length bytes → lanes ≡ map f (chunk at 16 bytes) → k < 16 → (length lanes ≡ 16) × (get_or lanes k 0 ≡ f (get_or bytes (at + k) 0))
mapped_lane f bytes lanes at k room is l = rw is (length-map _ f ∙ length-chunk at 16 bytes room, get_or-map f _ k 0 0 (omega (arith, length-map (chunk at 16 bytes) f, length-chunk at 16 bytes room, l)) ∙ ap f (get_or-chunk at 16 bytes k 0 l))

pub runs_found : (bytes others far_off none : List ℕ) (at : ℕ) → at + 16 < length bytes → ((i : ℕ) → get_or bytes i 0 < 256) → others ≡ map other (chunk at 16 bytes) → far_off ≡ map far (chunk at 16 bytes) → none ≡ map other (chunk (at + 1) 16 bytes)
    → mask_l (map (top 7) (zip2 bit_and others (zip2 bit_or far_off none))) % 2 ^ 64 ≡ 0 → (k : ℕ) → k < 16 → IsRun (code_of (get_or bytes (at + k) 0)) (code_of (get_or bytes (at + 1 + k) 0))
runs_found bytes others far_off none at room few o f n empty k l =
    let a = mapped_lane other bytes others at k (omega (arith, room)) o l in
    let b = mapped_lane far bytes far_off at k (omega (arith, room)) f l in
    let c = mapped_lane other bytes none (at + 1) k (omega (arith, room)) n l in
    let either = zip2 bit_or far_off none in let second = length-zip2 bit_or far_off none (b.0 ∙ sym c.0) in
    let whole = length-zip2 bit_and others either (a.0 ∙ sym (second ∙ b.0)) in
    let lane = get_or-zip2 bit_and others either k 0 0 0 (omega (arith, a.0, l)) (omega (arith, second, b.0, l)) ∙ ap (λ x. bit_and x (get_or either k 0)) a.1
    ∙ ap (λ y. bit_and (other (get_or bytes (at + k) 0)) y) (get_or-zip2 bit_or far_off none k 0 0 0 (omega (arith, b.0, l)) (omega (arith, c.0, l)) ∙ ap (λ x. bit_or x (get_or none k 0)) b.1 ∙ ap (λ y. bit_or (far (get_or bytes (at + k) 0)) y) c.1) in
    run_by (get_or bytes (at + k) 0) (get_or bytes (at + 1 + k) 0) (few (at + k)) (few (at + 1 + k)) (sym (ap (top 7) lane) ∙ no_top (zip2 bit_and others either) k (whole ∙ a.0) empty l)

-- the places at each lane
abbrev wide : ℕ → ℕ
wide b = cond (top 7 (far b)) 1 (less b 71)

wide_is : (b : ℕ) → b < 256 → cond (is_digit b) true (is_short b) ≡ true → wide b ≡ places_of (code_of b)
unfolding code_of
wide_is b h known = grind (arith, common_steps)

run_known : (b c : ℕ) → IsRun (code_of b) (code_of c) → cond (is_digit b) true (is_short b) ≡ true
run_known b c run = grind (arith, lt-ltb, le-ltb)

sum_push : (f : ℕ → ℕ) (xs : List ℕ) (y : ℕ) → sum_l (map f (xs ++ y ∷ [])) ≡ sum_l (map f xs) + f y
sum_push f [] y = omega arith
sum_push f (x ∷ xs) y = ap (λ s. f x + s) (sum_push f xs y) ∙ omega arith

sum_added : (f : ℕ → ℕ) (codes : List ℕ) (at n : ℕ) → at + n ≤ length codes → ((k : ℕ) → k < n → f (get_or codes (at + k) 0) ≡ places_of (code_of (get_or codes (at + k) 0))) → sum_l (map f (chunk at n codes)) ≡ added codes at n
unfolding added
sum_added f codes at zero inside same = refl
sum_added f codes at (suc n) inside same =
    ap (λ c. sum_l (map f c)) (take-suc (drop at codes) n 0 (omega (arith, length-drop at codes, inside))) ∙ sum_push f (chunk at n codes) (get_or (drop at codes) n 0) ∙ ap (λ b. sum_l (map f (chunk at n codes)) + f b) (get_or-drop at codes n 0)
    ∙ ap (λ s. s + f (get_or codes (at + n) 0)) (sum_added f codes at n (omega (arith, inside)) (λ k l. same k (omega (arith, l)))) ∙ ap (λ s. added codes at n + s) (same n (omega arith))

-- the lanes of their places
wide_lanes : (bytes from_g : List ℕ) (at : ℕ) → at + 16 ≤ length bytes → from_g ≡ zip2 less (chunk at 16 bytes) (replicate 16 71) → sel_l (map (top 7) (zip2 up_to (replicate 16 19) from_g)) (replicate 16 1) from_g ≡ map wide (chunk at 16 bytes)
wide_lanes bytes from_g at room is =
    let v = chunk at 16 bytes in let long = length-chunk at 16 bytes room in let far_off = λ (b : ℕ). top 7 (far b) in
    let asked : map (top 7) (zip2 up_to (replicate 16 19) from_g) ≡ map far_off v = ap (λ g. map (top 7) (zip2 up_to (replicate 16 19) g)) is ∙ ap (map (top 7)) (fars bytes at room) ∙ map-map (top 7) far v in
    ap (λ ms. sel_l ms (replicate 16 1) from_g) asked ∙ ap (λ o. sel_l (map far_off v) o from_g) (splat_is_map v 16 1 long)
    ∙ ap (λ g. sel_l (map far_off v) (map (λ _. 1) v) g) (is ∙ zip2_splat {Y = ℕ} less v 16 71 long) ∙ sel_maps far_off (λ _. 1) (λ b. less b 71) v

pub places_sum : (bytes from_g : List ℕ) (at : ℕ) → at + 16 ≤ length bytes → ((i : ℕ) → get_or bytes i 0 < 256) → from_g ≡ zip2 less (chunk at 16 bytes) (replicate 16 71)
    → ((k : ℕ) → k < 16 → IsRun (code_of (get_or bytes (at + k) 0)) (code_of (get_or bytes (at + 1 + k) 0)))
    → fold_l (λ s x. s + x) 0 (dots (sel_l (map (top 7) (zip2 up_to (replicate 16 19) from_g)) (replicate 16 1) from_g) (replicate 16 1)) ≡ added bytes at 16
places_sum bytes from_g at room few is runs =
    let v = chunk at 16 bytes in
    let lanes = sel_l (map (top 7) (zip2 up_to (replicate 16 19) from_g)) (replicate 16 1) from_g in
    let wides : lanes ≡ map wide v = wide_lanes bytes from_g at room is in
    let many : length lanes ≡ 16 = ap length wides ∙ length-map v wide ∙ length-chunk at 16 bytes room in
    let ones : sum_l (products lanes (replicate 16 1)) ≡ sum_l lanes = ap (λ n. sum_l (products lanes (replicate n 1))) (sym many) ∙ sum_by-ones lanes in
    let summed : fold_l (λ s x. s + x) 0 (dots lanes (replicate 16 1)) ≡ sum_l (dots lanes (replicate 16 1)) = fold-sum 0 (dots lanes (replicate 16 1)) ∙ omega arith in
    summed ∙ (sum_dots 4 lanes (replicate 16 1) many refl).0 ∙ ones ∙ ap sum_l wides
    ∙ sum_added wide bytes at 16 room (λ k l. wide_is (get_or bytes (at + k) 0) (few (at + k)) (run_known (get_or bytes (at + k) 0) (get_or bytes (at + 1 + k) 0) (runs k l)))

-- each code's places
pub step_lane : (bytes from_g : List ℕ) (at k : ℕ) → at + 16 ≤ length bytes → ((i : ℕ) → get_or bytes i 0 < 256) → from_g ≡ zip2 less (chunk at 16 bytes) (replicate 16 71) → k < 16 → IsRun (code_of (get_or bytes (at + k) 0)) (code_of (get_or bytes (at + 1 + k) 0))
    → get_or (sel_l (map (top 7) (zip2 up_to (replicate 16 19) from_g)) (replicate 16 1) from_g) k 0 ≡ places_of (code_of (get_or bytes (at + k) 0))
step_lane bytes from_g at k room few is l run = (mapped_lane wide bytes _ at k room (wide_lanes bytes from_g at room is) l).1 ∙ wide_is (get_or bytes (at + k) 0) (few (at + k)) (run_known (get_or bytes (at + k) 0) (get_or bytes (at + 1 + k) 0) run)

flipped : (s : Bool) (b c : ℕ) → cond (top 7 (cond s 0 255)) b c ≡ cond s c b
flipped s b c = grind arith

-- the byte whose value a code gives its places
shown_lane : (bytes far_off : List ℕ) (at k : ℕ) (s : Bool) → at + 16 < length bytes → get_or bytes (at + k) 0 < 256 → far_off ≡ map far (chunk at 16 bytes) → k < 16 → is_short (get_or bytes (at + k) 0) ≡ s
    → (length (sel_l (map (top 7) far_off) (chunk at 16 bytes) (chunk (at + 1) 16 bytes)) ≡ 16)
    × (get_or (sel_l (map (top 7) far_off) (chunk at 16 bytes) (chunk (at + 1) 16 bytes)) k 0 ≡ cond s (get_or bytes (at + 1 + k) 0) (get_or bytes (at + k) 0))
shown_lane bytes far_off at k s room byte is l short =
    let v = chunk at 16 bytes in let u = chunk (at + 1) 16 bytes in let ms = map (top 7) far_off in
    let here = length-chunk at 16 bytes (omega (arith, room)) in
    let next = length-chunk (at + 1) 16 bytes (omega (arith, room)) in
    let lane = mapped_lane far bytes far_off at k (omega (arith, room)) is l in
    let many : length ms ≡ 16 = length-map far_off (top 7) ∙ lane.0 in
    let asked : get_or ms k false ≡ top 7 (cond s 0 255) = get_or-map (top 7) far_off k 0 false (omega (arith, lane.0, l)) ∙ ap (top 7) (lane.1 ∙ far_is (get_or bytes (at + k) 0) byte) ∙ ap (λ t. top 7 (cond t 0 255)) short in (
      length-sel_l ms v u (many ∙ sym here) (many ∙ sym next) ∙ many,
      get_or-sel_l ms v u k 0 (omega (arith, many, l)) (omega (arith, here, l)) (omega (arith, next, l)) ∙ ap (λ t. cond t (get_or v k 0) (get_or u k 0)) asked
          ∙ ap (λ b. cond (top 7 (cond s 0 255)) b (get_or u k 0)) (get_or-chunk at 16 bytes k 0 l) ∙ ap (λ b. cond (top 7 (cond s 0 255)) (get_or bytes (at + k) 0) b) (get_or-chunk (at + 1) 16 bytes k 0 l) ∙ flipped s (get_or bytes (at + k) 0) (get_or bytes (at + 1 + k) 0),
    )

abbrev pub value : ℕ → ℕ
value b = (bit_and b 15 + b / 2 ^ 6 * 9 % 256) % 256

value_is : (b : ℕ) → b < 256 → digit_value (code_of b) < 16 → value b ≡ digit_value (code_of b)
unfolding code_of
value_is b h few = value_by value b refl h few

-- the values at each lane
pub own_lane : (bytes far_off lanes : List ℕ) (at k : ℕ) → at + 16 < length bytes → ((i : ℕ) → get_or bytes i 0 < 256) → far_off ≡ map far (chunk at 16 bytes) → (length (sel_l (map (top 7) far_off) (chunk at 16 bytes) (chunk (at + 1) 16 bytes)) ≡ 16 → lanes ≡ map value (sel_l (map (top 7) far_off) (chunk at 16 bytes) (chunk (at + 1) 16 bytes)))
    → k < 16 → digit_value (code_of (get_or bytes (at + k) 0)) < 16 → get_or lanes k 0 ≡ digit_value (code_of (get_or bytes (at + k) 0))
own_lane bytes far_off lanes at k room few is all l digit = grind (arith, shown_lane bytes far_off at k false, get_or-map, value_is, digit_adds)

pub next_lane : (bytes far_off lanes : List ℕ) (at k : ℕ) → at + 16 < length bytes → ((i : ℕ) → get_or bytes i 0 < 256) → far_off ≡ map far (chunk at 16 bytes) → (length (sel_l (map (top 7) far_off) (chunk at 16 bytes) (chunk (at + 1) 16 bytes)) ≡ 16 → lanes ≡ map value (sel_l (map (top 7) far_off) (chunk at 16 bytes) (chunk (at + 1) 16 bytes)))
    → k < 16 → IsRun (code_of (get_or bytes (at + k) 0)) (code_of (get_or bytes (at + 1 + k) 0)) → 16 ≤ digit_value (code_of (get_or bytes (at + k) 0)) → get_or lanes k 0 ≡ digit_value (code_of (get_or bytes (at + 1 + k) 0))
next_lane bytes far_off lanes at k room few is all l run big = grind (arith, shown_lane bytes far_off at k true, get_or-map, value_is, lt-ltb)

-- one more digit, and one more count with its digit
digit_step : (w : ℕ) (all : List Spelled) (x : ℕ) (codes : List ℕ) (at k : ℕ) → at + suc k ≤ length codes → digit_value (code_of (get_or codes (at + k) 0)) < 16 → Passed w all (x + added codes at k) (symbols_from codes (at + k)) → Passed w all (x + added codes at (suc k)) (symbols_from codes (at + suc k))
unfolding added
digit_step w all x codes at k inside digit before = grind (arith, one_place, passed_at, plain_symbol, digits_passed)

run_step : (w : ℕ) (all : List Spelled) (x : ℕ) (codes : List ℕ) (at j : ℕ) → at + suc (suc j) ≤ length codes → get_or codes (at + j) 0 < 256 → 16 ≤ digit_value (code_of (get_or codes (at + j) 0)) → IsShortCount (code_of (get_or codes (at + j) 0))
    → digit_value (code_of (get_or codes (at + suc j) 0)) < 16 → Passed w all (x + added codes at j) (symbols_from codes (at + j)) → Passed w all (x + added codes at (suc (suc j))) (symbols_from codes (at + suc (suc j)))
unfolding added
run_step w all x codes at j inside byte big short digit before = grind (arith, common_steps)

-- codes of which the last is a digit
runs_passed : (w : ℕ) (all : List Spelled) (x : ℕ) (codes : List ℕ) (at k : ℕ) → at + k ≤ length codes → ((i : ℕ) → get_or codes i 0 < 256) → ((i : ℕ) → i + 1 < k → IsRun (code_of (get_or codes (at + i) 0)) (code_of (get_or codes (at + 1 + i) 0)))
    → ((j : ℕ) → k ≡ suc j → digit_value (code_of (get_or codes (at + j) 0)) < 16) → Passed w all x (symbols_from codes at) → Passed w all (x + added codes at k) (symbols_from codes (at + k))
unfolding added
runs_passed w all x codes at zero inside few runs last r = grind arith
runs_passed w all x codes at (suc zero) inside few runs last r = grind (arith, common_steps, digit_step, passed_at)
runs_passed w all x codes at (suc (suc j)) inside few runs last r =
    let one = runs_passed w all x codes at (suc j) (omega (arith, inside)) few (λ i l. runs i (omega (arith, l))) in
    let two = runs_passed w all x codes at j (omega (arith, inside)) few (λ i l. runs i (omega (arith, l))) in
    grind (arith, cases_lt (digit_value (code_of (get_or codes (at + j) 0))) 16, digit_step w all x codes at (suc j) inside (last (suc j) refl), run_step w all x codes at j inside (few (at + j)), one, two, runs)

-- sixteen codes, and one more digit behind a count
pub counted_passed : (w : ℕ) (all : List Spelled) (x : ℕ) (codes : List ℕ) (at n more : ℕ) → at + 16 < length codes → ((i : ℕ) → get_or codes i 0 < 256) → ((k : ℕ) → k < 16 → IsRun (code_of (get_or codes (at + k) 0)) (code_of (get_or codes (at + 1 + k) 0)))
    → n ≡ added codes at 16 → more ≡ bool_byte (ltb 102 (bit_or (get_or codes (at + 15) 0) 32)) → Passed w all x (symbols_from codes at) → Passed w all (x + (n + more)) (symbols_from codes (at + 16 + more))
unfolding added
counted_passed w all x codes at n more room few runs is asked r =
    let c = code_of (get_or codes (at + 15) 0) in
    elim (cases_lt (digit_value c) 16) [
      | inl d ↦ (let none : at + 15 + more ≡ at + 15 = (behind_count (get_or codes (at + 15) 0) 0 more (at + 15) (few (at + 15)) (sym (digit_adds c d)) (omega arith) asked).1 refl in
          passed_at w all (x + added codes at 16) _ _ _ (omega (arith, is, none)) (ap (symbols_from codes) (omega (arith, none)))
          (runs_passed w all x codes at 16 (omega (arith, room)) few (λ i l. runs i (omega (arith, l))) (λ j e. let s : 15 ≡ j = omega (arith, e) in subst (λ q. digit_value (code_of (get_or codes (at + q) 0)) < 16) s d) r))
      | inr g ↦ (let last = runs 15 (omega arith) g in
          let one : at + 15 + more ≡ at + 15 + 1 = (behind_count (get_or codes (at + 15) 0) (count_value c) more (at + 15) (few (at + 15)) refl (omega (arith, last.0.1)) asked).0 last.0.0 in
          let there : at + 1 + 15 ≡ at + 16 = omega arith in
          let digit = subst (λ q. digit_value (code_of (get_or codes q 0)) < 16) there last.1 in
          let e : added codes at 17 ≡ added codes at 16 + 1 = ap (λ p. added codes at 16 + p) (one_place (code_of (get_or codes (at + 16) 0)) digit) in
          passed_at w all (x + added codes at 17) _ _ _ (omega (arith, is, one, e)) (ap (symbols_from codes) (omega (arith, one)))
          (runs_passed w all x codes at 17 (omega (arith, room)) few (λ i l. runs i (omega (arith, l))) (λ j e. let s : 16 ≡ j = omega (arith, e) in subst (λ q. digit_value (code_of (get_or codes (at + q) 0)) < 16) s digit) r))
    ]
