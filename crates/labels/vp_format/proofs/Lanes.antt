-- What vectors of sixteen bytes hold at each lane.
use Rattle.std.proofs.Common.{◌≡◌, ℕ, ◌+◌, ◌-◌, ◌%◌, ◌^◌, ◌<◌, ◌≤◌, true, false, not, Bool, cond, eqb, ltb, leb, ◌||◌, bit_and, bit_or, List, [], ◌∷◌, ◌++◌, refl, length, get_or, map, replicate, sym, ap, ◌∙◌, arith}
use Rattle.std.proofs.lemmas.Bool.{agree_below, agree_below_at, ltb-true, lt-ltb, eqb-true}
use Rattle.std.proofs.lemmas.Simd.{map-map, mask_l-mod, zip2_splat, zip2_of_maps, splat_is_map, length-chunk, get_or-chunk, get_or-put_chunk_at, first_set_mask_l, run_in_chunk_le, run_in_chunk_fails}
use Rattle.std.proofs.lemmas.List.{get_or-map, get_or_append_left, length-map}
use Rattle.std.specs.Simd.Lanes.{chunk, put_chunk, mask_l, top, zip2, sel_l}
use Rattle.std.specs.List.{prefix_len}
use Rattle.vp_format.specs.Codes.{code_of}
use Rattle.vp_format.specs.Cursors.{digit_value, first_set}

-- a byte that is a digit, by the stops of another test
pub digit_by : (stops : ℕ → Bool) (b : ℕ) → agree_below (λ x. stops x || ltb (digit_value (code_of x)) 16) (λ _. true) 256 ≡ true → b < 256 → stops b ≡ false → digit_value (code_of b) < 16
digit_by stops b all h goes = ltb-true _ 16 (sym (ap (λ s. s || ltb (digit_value (code_of b)) 16) goes) ∙ agree_below_at (λ x. stops x || ltb (digit_value (code_of x)) 16) (λ _. true) 256 b all h)

-- the value of a digit, by another computation
pub value_by : (f : ℕ → ℕ) (b : ℕ) → agree_below (λ x. cond (ltb (digit_value (code_of x)) 16) (eqb (f x) (digit_value (code_of x))) true) (λ _. true) 256 ≡ true → b < 256 → digit_value (code_of b) < 16 → f b ≡ digit_value (code_of b)
value_by f b all h few = eqb-true _ _ (sym (ap (λ s. cond s (eqb (f b) (digit_value (code_of b))) true) (lt-ltb _ 16 few)) ∙ agree_below_at (λ x. cond (ltb (digit_value (code_of x)) 16) (eqb (f x) (digit_value (code_of x))) true) (λ _. true) 256 b all h)

-- lanes that are computed from those of a load, where they are stored
pub stored_lane : (f : ℕ → ℕ) (bytes old lanes : List ℕ) (at x k : ℕ) → at + 16 ≤ length bytes → x + 16 ≤ length old → k < 16 → lanes ≡ map f (chunk at 16 bytes) → get_or (put_chunk x old lanes) (x + k) 0 ≡ f (get_or bytes (at + k) 0)
stored_lane f bytes old lanes at x k room inside h e =
    let many : length lanes ≡ 16 = ap length e ∙ length-map (chunk at 16 bytes) f ∙ length-chunk at 16 bytes room in
    get_or-put_chunk_at x old lanes k 0 (omega (arith, many)) (omega (arith, many)) ∙ rw e (get_or-map f _ k 0 0 (omega (arith, length-chunk at 16 bytes room))) ∙ ap f (get_or-chunk at 16 bytes k 0 h)

-- a lane of a load that stands behind itself
pub twice_lane : (places : List ℕ) (at k : ℕ) → at + 16 ≤ length places → k < 16 → get_or (chunk at 16 places ++ chunk at 16 places) k 0 ≡ get_or places (at + k) 0
twice_lane places at k room h =
    get_or_append_left (chunk at 16 places) (chunk at 16 places) 0 k (omega (arith, length-chunk at 16 places room)) ∙ get_or-chunk at 16 places k 0 h

-- lanes that are chosen by a test of each
pub sel_maps : (p : ℕ → Bool) (f g : ℕ → ℕ) (vs : List ℕ) → sel_l (map p vs) (map f vs) (map g vs) ≡ map (λ v. cond (p v) (f v) (g v)) vs
sel_maps p f g [] = refl
sel_maps p f g (v ∷ vs) = ap (λ l. cond (p v) (f v) (g v) ∷ l) (sel_maps p f g vs)

-- how many bytes come before the first at whose lane the top bit is set
module _ (f : ℕ → ℕ) (bytes lanes : List ℕ) (at r : ℕ) (room : at + 16 ≤ length bytes) (is : lanes ≡ map f (chunk at 16 bytes)) (found : r ≡ first_set (mask_l (map (top 7) lanes) % 2 ^ 64)) where
  abbrev stops : ℕ → Bool
  stops b = top 7 (f b)

  counted : r ≡ prefix_len (λ b. not (stops b)) (chunk at 16 bytes)
  counted =
      let v = chunk at 16 bytes in let long = length-chunk at 16 bytes room in
      let mask = ap (λ l. mask_l l % 2 ^ 64) (ap (map (top 7)) is ∙ map-map (top 7) f v) ∙ mask_l-mod (map stops v) 64 (omega (arith, length-map v stops, long)) in
      found ∙ ap first_set mask ∙ first_set_mask_l stops v 16 long (omega arith)

  pub run_few : r ≤ 16
  run_few = run_in_chunk_le stops bytes at 16 r 0 room counted

  pub run_goes_on : (k : ℕ) → k < r → stops (get_or bytes (at + k) 0) ≡ false
  run_goes_on k l = run_in_chunk_fails stops bytes at 16 r 0 room counted (at + k) (omega arith) (omega (arith, l))

-- a lane of a difference, and of a test
abbrev pub less : ℕ → ℕ → ℕ
less a b = (a + (256 - b)) % 256

abbrev pub up_to : ℕ → ℕ → ℕ
up_to a b = cond (leb a b) 255 0

-- the test at each lane: no digit up to 9 and no letter up to f
abbrev pub other : ℕ → ℕ
other b = bit_and (up_to 10 (less b 48)) (up_to 6 (less (bit_or b 32) 97))

pub others : (bytes : List ℕ) (at : ℕ) → at + 16 ≤ length bytes
    → zip2 bit_and (zip2 up_to (replicate 16 10) (zip2 less (chunk at 16 bytes) (replicate 16 48))) (zip2 up_to (replicate 16 6) (zip2 less (zip2 bit_or (chunk at 16 bytes) (replicate 16 32)) (replicate 16 97)))
    ≡ map other (chunk at 16 bytes)
others bytes at room = grind (arith, length-chunk, zip2_of_maps, splat_is_map, zip2_splat)
