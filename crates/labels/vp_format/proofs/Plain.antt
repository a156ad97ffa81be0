-- Vectors of codes, each of which is a digit, and what is packed of them.
use Rattle.std.proofs.Common.{inl, inr, ◌≡◌, ℕ, ◌+◌, ◌-◌, ◌*◌, ◌%◌, ◌^◌, ◌<◌, ◌≤◌, true, Bool, cond, ltb, ◌||◌, bit_or, List, ◌++◌, length, get_or, map, replicate, sym, ap, ◌∙◌, arith}
use Rattle.std.proofs.lemmas.Bool.{agree_below, cases_lt}
use Rattle.std.proofs.lemmas.Simd.{map-map, mask_l-mod, none_from_empty_mask, zip2_splat, zip2_of_maps, splat_is_map, tops_compared, length-chunk, get_or-chunk, get_or-put_chunk_at}
use Rattle.std.proofs.lemmas.List.{get_or-map, get_or_append_left, length-map}
use Rattle.std.proofs.lemmas.List.FromFn.{get_or-map-range_with_len, length-range_with_len}
use Rattle.std.specs.Int.{w8}
use Rattle.std.specs.Simd.Lanes.{chunk, put_chunk, mask_l, top, zip2, sel_l}
use Rattle.std.specs.List.{range_with_len}
use Rattle.vp_format.specs.Codes.{code_of}
use Rattle.vp_format.specs.Cursors.{digit_value}
use Rattle.vp_format.proofs.Lanes.{digit_by, less, up_to, sel_maps}

-- a comparison of two lanes
abbrev pub below : ℕ → ℕ → ℕ
below a b = cond (ltb a b) 255 0

-- lanes that are chosen by a comparison of two vectors, each computed lane by lane
pub chosen : (f g h i : ℕ → ℕ) (vs : List ℕ) {xs ys zs us : List ℕ} → xs ≡ map f vs → ys ≡ map g vs → zs ≡ map h vs → us ≡ map i vs
    → sel_l (map (top 7) (zip2 below xs ys)) zs us ≡ map (λ v. cond (ltb (f v) (g v)) (h v) (i v)) vs
chosen f g h i vs {xs} {ys} {zs} {us} a b c d =
    ap (λ ms. sel_l ms zs us) (tops_compared w8 ltb xs ys ∙ zip2_of_maps ltb f g vs a b) ∙ ap (λ l. sel_l (map (λ v. ltb (f v) (g v)) vs) l us) c ∙ ap (λ l. sel_l (map (λ v. ltb (f v) (g v)) vs) (map h vs) l) d
    ∙ sel_maps (λ v. ltb (f v) (g v)) h i vs

-- how far a byte is from 0, and from a or A
abbrev pub from_0 : ℕ → ℕ
from_0 b = less b 48

abbrev pub from_a : ℕ → ℕ
from_a b = less (bit_or b 32) 97

-- 4 less, and 0 of less than 4
abbrev four_less : ℕ → ℕ
four_less b = less (cond (ltb (from_0 b) 4) 4 (from_0 b)) 4

abbrev least : ℕ → ℕ
least b = cond (ltb (four_less b) (from_a b)) (four_less b) (from_a b)

-- the test at each lane: no digit up to 9 and no letter up to f
abbrev pub no_digit : ℕ → ℕ
no_digit b = up_to 6 (least b)

-- the value at each lane
abbrev pub lane_value : ℕ → ℕ
lane_value b = cond (ltb (from_0 b) ((from_a b + 10) % 256)) (from_0 b) ((from_a b + 10) % 256)

module _ (bytes : List ℕ) (at n : ℕ) (room : at + n ≤ length bytes) where
  from_0_lanes : zip2 less (chunk at n bytes) (replicate n 48) ≡ map from_0 (chunk at n bytes)
  from_0_lanes = zip2_splat {Y = ℕ} less (chunk at n bytes) n 48 (length-chunk at n bytes room)

  from_a_lanes : zip2 less (zip2 bit_or (chunk at n bytes) (replicate n 32)) (replicate n 97) ≡ map from_a (chunk at n bytes)
  from_a_lanes =
      let v = chunk at n bytes in let long = length-chunk at n bytes room in
      zip2_of_maps {X = ℕ} {Y = ℕ} less (λ b. bit_or b 32) (λ _. 97) v (zip2_splat {Y = ℕ} bit_or v n 32 long) (splat_is_map v n 97 long)

  pub tested : {xs ys : List ℕ} → xs ≡ zip2 less (chunk at n bytes) (replicate n 48) → ys ≡ zip2 less (zip2 bit_or (chunk at n bytes) (replicate n 32)) (replicate n 97)
      → zip2 up_to (replicate n 6) (sel_l (map (top 7) (zip2 below (zip2 less (sel_l (map (top 7) (zip2 below xs (replicate n 4))) (replicate n 4) xs) (replicate n 4)) ys)) (zip2 less (sel_l (map (top 7) (zip2 below xs (replicate n 4))) (replicate n 4) xs) (replicate n 4)) ys) ≡ map no_digit (chunk at n bytes)
  tested {xs} {ys} x y =
      let v = chunk at n bytes in let long = length-chunk at n bytes room in let four = splat_is_map v n 4 long in
      let less_four : zip2 less (sel_l (map (top 7) (zip2 below xs (replicate n 4))) (replicate n 4) xs) (replicate n 4) ≡ map four_less v =
      zip2_of_maps {X = ℕ} {Y = ℕ} less (λ b. cond (ltb (from_0 b) 4) 4 (from_0 b)) (λ _. 4) v (chosen from_0 (λ _. 4) (λ _. 4) from_0 v (x ∙ from_0_lanes) four four (x ∙ from_0_lanes)) four in
      zip2_of_maps {X = ℕ} {Y = ℕ} up_to (λ _. 6) least v (splat_is_map v n 6 long) (chosen four_less from_a four_less from_a v less_four (y ∙ from_a_lanes) less_four (y ∙ from_a_lanes))

  pub valued : {xs ys : List ℕ} → xs ≡ zip2 less (chunk at n bytes) (replicate n 48) → ys ≡ zip2 less (zip2 bit_or (chunk at n bytes) (replicate n 32)) (replicate n 97)
      → sel_l (map (top 7) (zip2 below xs (zip2 (λ a b. (a + b) % 256) ys (replicate n 10)))) xs (zip2 (λ a b. (a + b) % 256) ys (replicate n 10)) ≡ map lane_value (chunk at n bytes)
  valued {xs} {ys} x y =
      let v = chunk at n bytes in let long = length-chunk at n bytes room in
      let ten_more : zip2 (λ a b. (a + b) % 256) ys (replicate n 10) ≡ map (λ b. (from_a b + 10) % 256) v = zip2_of_maps {X = ℕ} {Y = ℕ} (λ a b. (a + b) % 256) from_a (λ _. 10) v (y ∙ from_a_lanes) (splat_is_map v n 10 long) in
      chosen from_0 (λ b. (from_a b + 10) % 256) from_0 (λ b. (from_a b + 10) % 256) v (x ∙ from_0_lanes) ten_more (x ∙ from_0_lanes) ten_more

  -- where the test is true at no lane, all are digits
  pub all_digits : {lanes : List ℕ} → n ≤ 64 → lanes ≡ map no_digit (chunk at n bytes) → mask_l (map (top 7) lanes) % 2 ^ 64 ≡ 0 → ((i : ℕ) → get_or bytes i 0 < 256)
      → agree_below (λ b. top 7 (no_digit b) || ltb (digit_value (code_of b)) 16) (λ _. true) 256 ≡ true → (k : ℕ) → k < n → digit_value (code_of (get_or bytes (at + k) 0)) < 16
  all_digits {lanes} few is none fits all k l =
      let v = chunk at n bytes in let test : ℕ → Bool = λ b. top 7 (no_digit b) in
      let long = length-chunk at n bytes room in
      let mask : mask_l (map (top 7) lanes) % 2 ^ 64 ≡ mask_l (map test v) = ap (λ l. mask_l l % 2 ^ 64) (ap (map (top 7)) is ∙ map-map (top 7) no_digit v) ∙ mask_l-mod (map test v) 64 (omega (arith, length-map v test, long)) in
      digit_by test (get_or bytes (at + k) 0) all (fits (at + k)) (none_from_empty_mask test bytes at n 0 room (sym mask ∙ none) (at + k) (omega arith) (omega (arith, l)))

-- two lanes of digits put into a byte
pub paired_lanes : (f : ℕ → ℕ) (bytes row lanes : List ℕ) (at i n k : ℕ) → at + 2 * n ≤ length bytes → i + n ≤ length row → k < n → lanes ≡ map f (chunk at (2 * n) bytes)
    → ((j : ℕ) → j < 2 * n → f (get_or bytes (at + j) 0) ≡ digit_value (code_of (get_or bytes (at + j) 0))) → ((j : ℕ) → j < 2 * n → digit_value (code_of (get_or bytes (at + j) 0)) < 16)
    → get_or (put_chunk i row (map (λ j. (get_or (lanes ++ lanes) (2 * j) 0 * 16 % 256 + get_or (lanes ++ lanes) (2 * j + 1) 0) % 256) (range_with_len 0 n))) (i + k) 0
    ≡ digit_value (code_of (get_or bytes (at + 2 * k) 0)) * 16 + digit_value (code_of (get_or bytes (at + (2 * k + 1)) 0))
paired_lanes f bytes row lanes at i n k room inside h is values few =
    let v = chunk at (2 * n) bytes in let long = length-chunk at (2 * n) bytes room in
    let many : length lanes ≡ 2 * n = ap length is ∙ length-map v f ∙ long in
    let lane : (j : ℕ) → j < 2 * n → get_or (lanes ++ lanes) j 0 ≡ digit_value (code_of (get_or bytes (at + j) 0)) = λ j l. get_or_append_left lanes lanes 0 j (omega (arith, many)) ∙ ap (λ l. get_or l j 0) is ∙ get_or-map f v j 0 0 (omega (arith, long)) ∙ ap f (get_or-chunk at (2 * n) bytes j 0 l) ∙ values j l in
    let g = λ (j : ℕ). (get_or (lanes ++ lanes) (2 * j) 0 * 16 % 256 + get_or (lanes ++ lanes) (2 * j + 1) 0) % 256 in
    let many_made : length (map g (range_with_len 0 n)) ≡ n = length-map (range_with_len 0 n) g ∙ length-range_with_len 0 n in
    grind (arith, get_or-put_chunk_at, get_or-map-range_with_len)

-- digits up to a place, and behind it
pub digits_more : (bytes : List ℕ) (at i w : ℕ) → ((k : ℕ) → k < 2 * i → digit_value (code_of (get_or bytes (at + k) 0)) < 16) → ((k : ℕ) → k < 2 * w → digit_value (code_of (get_or bytes (at + 2 * i + k) 0)) < 16)
    → (k : ℕ) → k < 2 * (i + w) → digit_value (code_of (get_or bytes (at + k) 0)) < 16
digits_more bytes at i w before next k l = grind (arith, cases_lt k (2 * i), before k, next (k - 2 * i))

-- a byte of two of them, by its place in the row
byte_behind : (bytes row : List ℕ) (at i k : ℕ) → i ≤ k → get_or row (i + (k - i)) 0 ≡ digit_value (code_of (get_or bytes (at + 2 * i + 2 * (k - i)) 0)) * 16 + digit_value (code_of (get_or bytes (at + 2 * i + (2 * (k - i) + 1)) 0))
    → get_or row k 0 ≡ digit_value (code_of (get_or bytes (at + 2 * k) 0)) * 16 + digit_value (code_of (get_or bytes (at + (2 * k + 1)) 0))
byte_behind bytes row at i k order h = grind arith

-- bytes of two of them up to a place, and behind it
pub bytes_more : (bytes old row : List ℕ) (at i w : ℕ) → ((k : ℕ) → k < i → get_or row k 0 ≡ get_or old k 0) → ((k : ℕ) → k < i → get_or old k 0 ≡ digit_value (code_of (get_or bytes (at + 2 * k) 0)) * 16 + digit_value (code_of (get_or bytes (at + (2 * k + 1)) 0)))
    → ((k : ℕ) → k < w → get_or row (i + k) 0 ≡ digit_value (code_of (get_or bytes (at + 2 * i + 2 * k) 0)) * 16 + digit_value (code_of (get_or bytes (at + 2 * i + (2 * k + 1)) 0)))
    → (k : ℕ) → k < i + w → get_or row k 0 ≡ digit_value (code_of (get_or bytes (at + 2 * k) 0)) * 16 + digit_value (code_of (get_or bytes (at + (2 * k + 1)) 0))
bytes_more bytes old row at i w kept before next k l = elim (cases_lt k i) [ inl b ↦ kept k b ∙ before k b | inr a ↦ byte_behind bytes row at i k a (next (k - i) (omega (arith, l))) ]
