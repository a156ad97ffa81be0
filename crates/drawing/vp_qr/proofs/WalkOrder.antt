-- The walk by lists is the walk by arithmetic, version by version.
use Rattle.std.proofs.Common.{◌≡◌, ℕ, zero, suc, ◌+◌, ◌-◌, ◌*◌, ◌/◌, ◌%◌, ◌<◌, ◌≤◌, ◌&&◌, ◌||◌, Bool, true, false, cond, eqb, ltb, List, [], ◌∷◌, length, get_or, take, refl, ap, ◌∙◌, arith, leb}
use Rattle.std.proofs.Math.Nat.{mul-add-mod_self_left, mul-le-mul_left, mul-suc, mul_comm, mod-eq_of_lt}
use Rattle.std.proofs.lemmas.Nat.{div-mul-add}
use Rattle.std.specs.List.{filter, position_or_len}
use Rattle.std.proofs.lemmas.Bool.{eq-eqb, and_parts, eqb-true, leb-true}
use Rattle.vp_qr.specs.declared.walk.Place.{Place}
use Rattle.vp_qr.specs.Places.{size}
use Rattle.vp_qr.specs.Walk.{walk, pairs, upwards, downwards, place, rank, steps, right_column, is_free, is_at, number_of, free_places}
use Rattle.vp_qr.proofs.FieldLaws.{passes_below, passes_at}

-- the entries of ws are modules m, m + 1 and so on of the walk by arithmetic
abbrev pub numbered : ℕ → ℕ → List Place → Bool
numbered s m [] = true
numbered s m (p ∷ ps) = eqb p.row (place s m).row && eqb p.column (place s m).column && numbered s (m + 1) ps

numbered_all : passes_below 10 (λ k. numbered (size (k + 1)) 0 (walk (size (k + 1)))) ≡ true
unfolding walk pairs upwards downwards place
numbered_all = refl

lengths_all : passes_below 10 (λ k. eqb (length (walk (size (k + 1)))) (steps (size (k + 1)))) ≡ true
unfolding walk pairs upwards downwards
lengths_all = refl

-- the number of a module, and the module of a number
abbrev pub comes_back : ℕ → ℕ → Bool
comes_back s m = eqb (rank s (place s m).row (place s m).column) m && ltb (place s m).row s && ltb (place s m).column s && ltb (m / (2 * s)) ((s - 1) / 2) && ltb 0 (right_column ((s - 1) / 2 - 1 - m / (2 * s)))

comes_back_all : passes_below 10 (λ k. passes_below (steps (size (k + 1))) (comes_back (size (k + 1)))) ≡ true
unfolding place rank
comes_back_all = refl

abbrev pub goes_there : ℕ → ℕ → ℕ → Bool
goes_there s i j = eqb j 6 || (eqb (place s (rank s i j)).row i && eqb (place s (rank s i j)).column j && ltb (rank s i j) (steps s))

goes_there_all : passes_below 10 (λ k. passes_below (size (k + 1)) (λ i. passes_below (size (k + 1)) (λ j. goes_there (size (k + 1)) i j))) ≡ true
unfolding place rank
goes_there_all = refl

-- a test that passes at 1 to 10
pub for_version : (t : ℕ → Bool) → passes_below 10 (λ k. t (k + 1)) ≡ true → (v : ℕ) → 1 ≤ v → v ≤ 10 → t v ≡ true
for_version t h v low high = grind arith

module _ (v : ℕ) (low : 1 ≤ v) (high : v ≤ 10) where
  pub walk_length : length (walk (size v)) ≡ steps (size v)
  walk_length = eqb-true _ _ (for_version (λ v. eqb (length (walk (size v))) (steps (size v))) lengths_all v low high)

  pub walk_same : numbered (size v) 0 (walk (size v)) ≡ true
  walk_same = for_version (λ v. numbered (size v) 0 (walk (size v))) numbered_all v low high

  back : (m : ℕ) → m < steps (size v) → comes_back (size v) m ≡ true
  back m lt = passes_at (steps (size v)) (comes_back (size v)) (for_version (λ v. passes_below (steps (size v)) (comes_back (size v))) comes_back_all v low high) m lt

  pub rank_place : (m : ℕ) → m < steps (size v) → rank (size v) (place (size v) m).row (place (size v) m).column ≡ m
  rank_place m lt = eqb-true _ _ (and_parts _ _ (and_parts _ _ (and_parts _ _ (and_parts _ _ (back m lt)).0).0).0).0

  there : (i j : ℕ) → i < size v → j < size v → goes_there (size v) i j ≡ true
  there i j hi hj =
      passes_at (size v) (goes_there (size v) i)
      (passes_at (size v) (λ i. passes_below (size v) (λ j. goes_there (size v) i j))
      (for_version (λ v. passes_below (size v) (λ i. passes_below (size v) (λ j. goes_there (size v) i j))) goes_there_all v low high) i hi)
      j hj

numbered_at : (s m : ℕ) (ps : List Place) (n : ℕ) (d : Place) → numbered s m ps ≡ true → n < length ps
    → ((get_or ps n d).row ≡ (place s (m + n)).row) × ((get_or ps n d).column ≡ (place s (m + n)).column)
numbered_at s m [] n d h lt = absurd (omega arith)
numbered_at s m (p ∷ ps) zero d h lt = grind arith
numbered_at s m (p ∷ ps) (suc n) d h lt = grind (arith, numbered_at s (m + 1) ps n d)

among_more : (t f : Place → Bool) (p : Place) (ps : List Place) (m : ℕ) (b : Bool) → t p ≡ false → position_or_len t (filter f ps) ≡ length (filter f (take m ps))
    → position_or_len t (cond b (p ∷ filter f ps) (filter f ps)) ≡ length (cond b (p ∷ filter f (take m ps)) (filter f (take m ps)))
among_more t f p ps m b here rest = grind arith

-- the first element that passes t, among those that pass f
pub first_among : (t f : Place → Bool) (ps : List Place) (m : ℕ) (d : Place) → m < length ps → t (get_or ps m d) ≡ true → f (get_or ps m d) ≡ true
    → ((n : ℕ) → n < m → t (get_or ps n d) ≡ false) → position_or_len t (filter f ps) ≡ length (filter f (take m ps))
first_among t f [] m d lt ht hf before = absurd (omega arith)
first_among t f (p ∷ ps) zero d lt ht hf before = rw hf (rw ht refl)
first_among t f (p ∷ ps) (suc m) d lt ht hf before =
    let here : t p ≡ false = before 0 (omega arith) in
    let rest : position_or_len t (filter f ps) ≡ length (filter f (take m ps)) =
    first_among t f ps m d (omega arith) ht hf (λ (n : ℕ) (h : n < m). before (suc n) (omega arith)) in
    among_more t f p ps m (f p) here rest

-- where the walk comes to a place
module _ (v : ℕ) (low : 1 ≤ v) (high : v ≤ 10) where
  pub rank_there : (i j : ℕ) → i < size v → j < size v → (j ≡ 6 → ⊥) → (place (size v) (rank (size v) i j)).row ≡ i
  rank_there i j hi hj ne = grind (arith, there v low high i j hi hj)

  pub rank_there_column : (i j : ℕ) → i < size v → j < size v → (j ≡ 6 → ⊥) → (place (size v) (rank (size v) i j)).column ≡ j
  rank_there_column i j hi hj ne = grind (arith, there v low high i j hi hj)

  pub rank_below : (i j : ℕ) → i < size v → j < size v → (j ≡ 6 → ⊥) → rank (size v) i j < steps (size v)
  rank_below i j hi hj ne = grind (arith, there v low high i j hi hj)

  -- the walk's module number m is the one by arithmetic
  pub walk_at : (m : ℕ) (d : Place) → m < steps (size v) → ((get_or (walk (size v)) m d).row ≡ (place (size v) m).row) × ((get_or (walk (size v)) m d).column ≡ (place (size v) m).column)
  walk_at m d lt = grind (arith, numbered_at (size v) 0 (walk (size v)) m d, walk_same v low high, walk_length v low high)

  -- no earlier module of the walk is that of number m
  pub not_before : (m n : ℕ) (d : Place) → m < steps (size v) → n < m → is_at (place (size v) m).row (place (size v) m).column (get_or (walk (size v)) n d) ≡ false
  not_before m n d lt h = grind (arith, walk_at n d, rank_place v low high n, rank_place v low high m lt)

  -- a free module's number is how many free ones the walk met before it
  pub number_is : (m : ℕ) (d : Place) → m < steps (size v) → is_free v (place (size v) m) ≡ true
      → number_of v (place (size v) m).row (place (size v) m).column ≡ length (filter (is_free v) (take m (walk (size v))))
  unfolding number_of free_places
  number_is m d lt free =
      let p : Place = place (size v) m in
      let w : Place = get_or (walk (size v)) m d in
      let same = walk_at m d lt in
      let here : is_at p.row p.column w ≡ true = rw (eq-eqb w.row p.row same.0, eq-eqb w.column p.column same.1) refl in
      let free_here : is_free v w ≡ true = rw (same.0, same.1) free in
      first_among (is_at p.row p.column) (is_free v) (walk (size v)) m d (omega (arith, walk_length v low high)) here free_here (λ (n : ℕ) (h : n < m). not_before m n d lt h)

-- module number `step` of a pair, the pairs being counted from the right
module _ (v : ℕ) (low : 1 ≤ v) (high : v ≤ 10) (pair step : ℕ) (hp : pair < (size v - 1) / 2) (hs : step < 2 * size v) where
  pair_of : (2 * size v * pair + step) / (2 * size v) ≡ pair
  pair_of = ap (λ n. (n + step) / (2 * size v)) (mul_comm (2 * size v) pair) ∙ div-mul-add pair (2 * size v) step hs

  step_of : (2 * size v * pair + step) % (2 * size v) ≡ step
  step_of = mul-add-mod_self_left (2 * size v) pair step ∙ mod-eq_of_lt hs

  half_of : (2 * size v * pair + step) % 2 ≡ step % 2
  half_of = grind arith

  abbrev made : Place → Place
  made p = p

  place_of : place (size v) (2 * size v * pair + step)
      ≡ record { row = cond (eqb (((size v - 1) / 2 - 1 - pair) % 2) 1) (size v - 1 - step / 2) (step / 2); column = right_column ((size v - 1) / 2 - 1 - pair) - step % 2 }
  unfolding place
  place_of = rw (pair_of, step_of, half_of) refl

  pub place_here : (up : Bool) (right : ℕ) → right ≡ right_column ((size v - 1) / 2 - 1 - pair) → eqb (((size v - 1) / 2 - 1 - pair) % 2) 1 ≡ up
      → ◌≡◌ {A = Place} (record { row = cond up (size v - 1 - step / 2) (step / 2); column = right - step % 2 }) (place (size v) (2 * size v * pair + step))
  place_here up right e f = grind (arith, place_of)

  pub step_within : 2 * size v * pair + step < steps (size v)
  step_within =
      let all : 2 * size v * ((size v - 1) / 2) ≤ steps (size v) = leb-true _ _ (for_version (λ n. leb (2 * size n * ((size n - 1) / 2)) (steps (size n))) refl v low high) in
      let upto : 2 * size v * suc pair ≤ 2 * size v * ((size v - 1) / 2) = mul-le-mul_left (2 * size v) (omega arith) in
      omega (arith, all, upto, mul-suc (2 * size v) pair)

-- the two modules of row number `half` of a pair
module _ (v : ℕ) (low : 1 ≤ v) (high : v ≤ 10) (pair half : ℕ) (hp : pair < (size v - 1) / 2) (hs : half < size v) (up : Bool) (right : ℕ) (e : right ≡ right_column ((size v - 1) / 2 - 1 - pair)) (f : eqb (((size v - 1) / 2 - 1 - pair) % 2) 1 ≡ up) where
  abbrev in_row : ℕ → ℕ → Place
  in_row rows column = record { row = cond up (size v - 1 - rows) rows; column = column }

  pub right_here : in_row half right ≡ place (size v) (2 * size v * pair + 2 * half)
  right_here = grind (arith, place_here v low high pair (2 * half) hp)

  pub left_here : in_row half (right - 1) ≡ place (size v) (2 * size v * pair + 2 * half + 1)
  left_here = grind (arith, place_here v low high pair (2 * half + 1) hp)

pub steps_of_pairs : (v : ℕ) → 1 ≤ v → v ≤ 10 → steps (size v) ≤ 2 * size v * ((size v - 1) / 2)
steps_of_pairs v low high = leb-true _ _ (for_version (λ n. leb (steps (size n)) (2 * size n * ((size n - 1) / 2))) refl v low high)
