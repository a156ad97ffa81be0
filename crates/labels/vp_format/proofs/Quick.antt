-- Codes that are read in a quick way: digits one after the other, and short runs.
use Rattle.std.proofs.lemmas.Grind.{common_steps}
use Rattle.std.proofs.Common.{◌≡◌, ℕ, Bool, true, cond, bit_or, ltb, zero, suc, ◌+◌, ◌-◌, ◌<◌, ◌≤◌, max, List, ◌∷◌, drop, take, map, length, get_or, Result, ap, ◌∙◌, refl, arith}
use Rattle.std.proofs.lemmas.List.{drop_more, get_or-map}
use Rattle.std.proofs.lemmas.Simd.{length-chunk, get_or-chunk}
use Rattle.vp_dots.specs.declared.fault.Fault.{Fault}
use Rattle.vp_format.specs.declared.rows.Spot.{Spot}
use Rattle.vp_format.specs.declared.rows.Coding.TheVariants.{RunLength}
use Rattle.std.proofs.lemmas.Bool.{lt-ltb, ltb-true, agree_below_at, true≢false}
use mir.Val.{bool_byte}
use Rattle.vp_format.specs.declared.codes.Code.{Code}
use Rattle.vp_format.specs.declared.codes.Code.TheVariants.{Digit, Count}
use Rattle.vp_format.specs.declared.codes.Symbol.TheVariants.{Digits}
use Rattle.vp_format.specs.Codes.{code_of, Spelled, spelled}
use Rattle.vp_format.specs.declared.row.RowEnd.{RowEnd}
use Rattle.vp_format.specs.Cursors.{count_value, digit_value, symbols_from, symbols_at, Filled, Reached, ReadsOn, RowRead}
use Rattle.vp_format.proofs.Reached.{bytes_none, shown_past, run_reached, run_done, reached_at, start_reached, digit_in_hand}

-- places from x on may be overwritten
pub reached_same : (w : ℕ) (all : List Spelled) (from : ℕ) (old new : List ℕ) (x : ℕ) (left : List Spelled) (at : ℕ) → ((j : ℕ) → j < x → get_or new j 0 ≡ get_or old j 0)
    → Reached w all from old x left at → Reached w all from new x left at
reached_same w all from old new x left at kept r = grind arith

-- digits in the bytes from a place on, whose values stand in the places
pub digits_reached : (w : ℕ) (all : List Spelled) (from : ℕ) (old new : List ℕ) (x : ℕ) (codes : List ℕ) (at k : ℕ) → ((j : ℕ) → j < x → get_or new j 0 ≡ get_or old j 0) → at + k ≤ length codes
    → ((i : ℕ) → i < k → digit_value (code_of (get_or codes (at + i) 0)) < 16) → ((i : ℕ) → i < k → get_or new (x + i) 0 ≡ digit_value (code_of (get_or codes (at + i) 0)))
    → Reached w all from old x (symbols_from codes at) at → Reached w all from new (x + k) (symbols_from codes (at + k)) (at + k)
digits_reached w all from old new x codes at zero kept inside few put r = grind (arith, reached_at, reached_same)
digits_reached w all from old new x codes at (suc k) kept inside few put r =
    let before = digits_reached w all from old new x codes at k kept (omega (arith, inside)) (λ i l. few i (omega (arith, l))) (λ i l. put i (omega (arith, l))) r in let back : at + k ≡ at + suc k - 1 = omega arith in
    let first = ap (symbols_from codes) back ∙ digit_in_hand codes (at + suc k) _ _ (omega arith) inside (ap (λ i. get_or codes i 0) back) refl (few k (omega arith)) in
    grind (arith, before, first, few k, put k, bytes_none)

pub digits_read : (w : ℕ) (codes old new : List ℕ) (x at k : ℕ) → length new ≡ length old → ((j : ℕ) → j < x → get_or new j 0 ≡ get_or old j 0) → x + k ≤ w → at + k ≤ length codes
    → ((i : ℕ) → i < k → digit_value (code_of (get_or codes (at + i) 0)) < 16) → ((i : ℕ) → i < k → get_or new (x + i) 0 ≡ digit_value (code_of (get_or codes (at + i) 0)))
    → ReadsOn w codes old x at new (x + k) (at + k)
digits_read w codes old new x at k len kept place inside few put =
    record { len = len; after = omega arith; place = place; behind = omega arith; inside = inside; reached = λ all start. digits_reached w all start old new x codes at k kept inside few put }

-- one part after the other
pub reads_on : (w : ℕ) (codes p q r : List ℕ) (x at y to z last : ℕ) → ReadsOn w codes p x at q y to → ReadsOn w codes q y to r z last → ReadsOn w codes p x at r z last
reads_on w codes p q r x at y to z last a b =
    record { len = b.len ∙ a.len; after = omega arith; place = b.place; behind = omega arith; inside = b.inside; reached = λ all start s. b.reached all start (a.reached all start s) }

-- the values of so many bytes from a place on
abbrev pub values_from : List ℕ → ℕ → ℕ → List ℕ
values_from codes at n = map (λ b. digit_value (code_of b)) (take n (drop at codes))

pub value_from : (codes : List ℕ) (at n j : ℕ) → at + n ≤ length codes → j < n → get_or (values_from codes at n) j 0 ≡ digit_value (code_of (get_or codes (at + j) 0))
value_from codes at n j inside l = get_or-map (λ b. digit_value (code_of b)) (take n (drop at codes)) j 0 0 (omega (arith, l, length-chunk at n codes inside)) ∙ ap (λ b. digit_value (code_of b)) (get_or-chunk at n codes j 0 l)

-- a row of digits alone, where no run is left
pub plain_reached : (w : ℕ) (codes : List ℕ) (s : Spot) → s.left ≡ 0 → s.at + w ≤ length codes → ((k : ℕ) → k < w → digit_value (code_of (get_or codes (s.at + k) 0)) < 16)
    → Reached w (symbols_at RunLength codes s) s.at (values_from codes s.at w) w (symbols_from codes (s.at + w)) (s.at + w)
plain_reached w codes s none inside few =
    let all = symbols_at RunLength codes s in let vs = values_from codes s.at w in
    let begun = run_done w all s.at vs 0 s.left s.digit (symbols_from codes s.at) s.at none (start_reached w all s.at vs) in
    reached_at w all s.at vs (0 + w) w _ _ _ _ (omega arith) refl refl (digits_reached w all s.at vs vs 0 codes s.at w (λ j l. refl) inside few (λ i l. let e : 0 + i ≡ i = omega arith in ap (λ k. get_or vs k 0) e ∙ value_from codes s.at w i inside l) begun)

-- a code that adds a small count is one: the digits of bytes have small values
abbrev small_digit : Code → Bool
small_digit (Digit v) = ltb v 16
small_digit _ = true

small_digits : (b : ℕ) → b < 256 → small_digit (code_of b) ≡ true
unfolding code_of
small_digits b h = agree_below_at (λ b. small_digit (code_of b)) (λ _. true) 256 b refl h

-- no byte adds more than one that is neither digit nor count
pub count_few : (b : ℕ) → b < 256 → count_value (code_of b) ≤ 1000
unfolding code_of
count_few b h = let below = ltb-true (count_value (code_of b)) 1001 (agree_below_at (λ b. ltb (count_value (code_of b)) 1001) (λ _. true) 256 b refl h) in omega (arith, below)

count_is : (c : Code) → small_digit c ≡ true → 16 ≤ digit_value c → count_value c < 1000 → c ≡ Count (count_value c)
count_is c s h l = grind (arith, ltb-true)

pub digit_adds : (c : Code) → digit_value c < 16 → count_value c ≡ 0
digit_adds c h = grind arith

-- a plain digit
pub plain_symbol : (codes : List ℕ) (at : ℕ) → at < length codes → digit_value (code_of (get_or codes at 0)) < 16 → symbols_from codes at ≡ spelled (Digits 1 (digit_value (code_of (get_or codes at 0)))) (at + 1 - at) ∷ symbols_from codes (at + 1)
plain_symbol codes at inside digit = grind (arith, drop_more)

-- a digit behind one count or none
pub run_symbol : (codes : List ℕ) (at n next v m to : ℕ) → next < length codes → at ≤ next → get_or codes at 0 < 256 → n ≡ count_value (code_of (get_or codes at 0)) → n < 1000 → (0 < n → next ≡ at + 1) → (n ≡ 0 → next ≡ at) → v ≡ digit_value (code_of (get_or codes next 0)) → v < 16 → m ≡ max n 1
    → to ≡ next + 1 → symbols_from codes at ≡ spelled (Digits m v) (to - at) ∷ symbols_from codes to
run_symbol codes at n next v m to inside ordered byte is few one none shows digit takes there = grind (arith, common_steps)

-- a digit behind two
pub second_symbol : (codes : List ℕ) (at n next sum v m to : ℕ) → next + 1 < length codes → at ≤ next → ((i : ℕ) → get_or codes i 0 < 256) → n ≡ count_value (code_of (get_or codes at 0)) → (0 < n → next ≡ at + 1) → (n ≡ 0 → next ≡ at) → 16 ≤ digit_value (code_of (get_or codes next 0)) → sum ≡ n + count_value (code_of (get_or codes next 0)) → sum < 1000
    → v ≡ digit_value (code_of (get_or codes (next + 1) 0)) → v < 16 → m ≡ max sum 1 → to ≡ next + 2 → symbols_from codes at ≡ spelled (Digits m v) (to - at) ∷ symbols_from codes to
second_symbol codes at n next sum v m to inside ordered bytes is one none big adds few shows digit takes there = grind (arith, drop_more, count_is, small_digits)

-- a short run in the places
pub run_taken : (w : ℕ) (all : List Spelled) (from : ℕ) (old new : List ℕ) (x n v k : ℕ) (left : List Spelled) (at to : ℕ) → 0 < n → n ≤ 32 → v < 16 → at ≤ to → k ≡ to - at → Filled x (x + 32) v old new
    → Reached w all from old x (spelled (Digits n v) k ∷ left) at → Reached w all from new (x + n) left to
run_taken w all from old new x n v k left at to some short few ordered long f r = grind (arith, run_reached, reached_at, run_done)

-- the byte behind a count, and that of a digit
pub behind_count : (b n r at : ℕ) → b < 256 → n ≡ count_value (code_of b) → n < 1000 → r ≡ bool_byte (ltb 102 (bit_or b 32)) → (0 < n → at + r ≡ at + 1) × (n ≡ 0 → at + r ≡ at)
unfolding code_of
behind_count b n r at h is few e =
    let asked = agree_below_at (λ x. cond (ltb (count_value (code_of x)) 1000) (ltb 102 (bit_or x 32)) true) (λ x. cond (ltb (count_value (code_of x)) 1000) (ltb 0 (count_value (code_of x))) true) 256 b refl h in
    grind (arith, lt-ltb, asked)

pub one_most : (r : ℕ) (b : Bool) → r ≡ bool_byte b → r ≤ 1
one_most r b e = grind arith

pub read_anew : (w : ℕ) (codes old before new : List ℕ) (s : Spot) (at : ℕ) (r : Result RowEnd Fault) → s.left ≡ 0 → s.at < length codes → digit_value (code_of (get_or codes s.at 0)) < 16 → RowRead w RunLength codes s r at old new → RowRead w RunLength codes s r at before new
read_anew w codes old before new s at r h1 h2 h3 h4 = grind (arith, true≢false, plain_symbol, shown_past)
