-- Squares of the turned half on the upright one.
use Rattle.std.proofs.Common.{◌≡◌, ℕ, ◌+◌, ◌-◌, ◌*◌, ◌/◌, ◌<◌, ◌≤◌, ◌∙◌, Bool, true, false, ltb, leb, ◌&&◌, ◌||◌, sym, arith, List, [], get_or}
use Rattle.std.proofs.lemmas.Bool.Decides.{nat_tests}
use Rattle.vp_dots.specs.Dots.{dot, span}
use Rattle.vp_dots.specs.Words.{word_dot}

neither : (sx sy d : Bool) → (sx ≡ true → sy ≡ true → d ≡ false) → (sx && (sy && d)) ≡ false
neither sx sy d e = grind arith

same : (sx sy tx d : Bool) → (sx ≡ true → sy ≡ true → tx ≡ d) → (sx ≡ false → tx ≡ false) → (sy && tx) ≡ (sx && (sy && d))
same sx sy tx d e f = grind arith

module _ (columns : List (List ℕ)) (square : List ℕ) (column row : ℕ)
    (dots : (k x : ℕ) → k < 64 → x < 64 → word_dot (get_or square k 0) x ≡ dot (get_or columns (64 * column + k) []) (8 * (8 * row) + x)) where
  inside : (x y : ℕ) → span (64 * column) (64 * (column + 1)) x ≡ true → span (64 * row) (64 * (row + 1)) y ≡ true
      → word_dot (get_or square (x - 64 * column) 0) (y - 64 * row) ≡ dot (get_or columns x []) y
  inside x y h l =
      let left : 64 * column ≤ x = grind (arith, nat_tests) in
      let right : x < 64 * (column + 1) = grind (arith, nat_tests) in
      let above : 64 * row ≤ y = grind (arith, nat_tests) in
      let below : y < 64 * (row + 1) = grind (arith, nat_tests) in
      let at : 64 * column + (x - 64 * column) ≡ x = omega (arith, left) in
      let on : 8 * (8 * row) + (y - 64 * row) ≡ y = omega (arith, above) in
      rw (at, on) at (dots (x - 64 * column) (y - 64 * row) (omega (arith, left, right)) (omega (arith, above, below)))

  -- a white one
  pub white_square : ((k x : ℕ) → k < 64 → x < 64 → word_dot (get_or square k 0) x ≡ false) → (x y : ℕ)
      → (span (64 * column) (64 * (column + 1)) x && (span (64 * row) (64 * (row + 1)) y && dot (get_or columns x []) y)) ≡ false
  white_square white x y = neither _ _ _ (λ h l.
      sym (inside x y h l) ∙ white (x - 64 * column) (y - 64 * row) (grind (arith, nat_tests)) (grind (arith, nat_tests)))

  -- one that is turned
  pub turned_square : (new : List ℕ) → ((x y : ℕ) → x < 64 → y < 64 → word_dot (get_or new y 0) x ≡ word_dot (get_or square x 0) y) → (x y : ℕ)
      → (span (64 * row) (64 * row + 64) y && (leb (8 * (8 * column)) x && word_dot (get_or new (y - 64 * row) 0) (x - 8 * (8 * column))))
      ≡ (span (64 * column) (64 * (column + 1)) x && (span (64 * row) (64 * (row + 1)) y && dot (get_or columns x []) y))
  turned_square new turn x y =
      let end : 64 * row + 64 ≡ 64 * (row + 1) = omega arith in
      let begin : 8 * (8 * column) ≡ 64 * column = omega arith in
      rw (end, begin) (same (span (64 * column) (64 * (column + 1)) x) _ (leb (64 * column) x && word_dot (get_or new (y - 64 * row) 0) (x - 64 * column)) _
      (λ h l. on_square h ∙ turn (x - 64 * column) (y - 64 * row) (grind (arith, nat_tests)) (grind (arith, nat_tests)) ∙ inside x y h l) off_square)
    where
      on_square : span (64 * column) (64 * (column + 1)) x ≡ true → (leb (64 * column) x && word_dot (get_or new (y - 64 * row) 0) (x - 64 * column)) ≡ word_dot (get_or new (y - 64 * row) 0) (x - 64 * column)
      on_square h = grind (arith, nat_tests)

      off_square : span (64 * column) (64 * (column + 1)) x ≡ false → (leb (64 * column) x && word_dot (get_or new (y - 64 * row) 0) (x - 64 * column)) ≡ false
      off_square h = grind (arith, nat_tests)

-- one more square, below the others or beside them
pub next_below : (r y : ℕ) (s d : Bool) → (s && (ltb y (64 * (r + 1)) && d)) ≡ ((s && (ltb y (64 * r) && d)) || (s && (span (64 * r) (64 * (r + 1)) y && d)))
next_below r y s d = grind (arith, nat_tests)

pub next_beside : (first i x : ℕ) (d : Bool) → (span (64 * first) (64 * (first + (i + 1))) x && d) ≡ ((span (64 * first) (64 * (first + i)) x && d) || (span (64 * (first + i)) (64 * (first + i + 1)) x && d))
next_beside first i x d = grind (arith, nat_tests)

pub all_below : (r y : ℕ) (s d : Bool) → y < 64 * r → (s && (ltb y (64 * r) && d)) ≡ (s && d)
all_below r y s d h = grind (arith, nat_tests)

-- all columns but those that are white
pub all_beside : (from to first n x : ℕ) (d : Bool) → first ≡ from / 64 → to ≤ 64 * (first + n) → (0 < n → first + n ≤ 9) → (x < 576 → span from to x ≡ false → d ≡ false)
    → (span (64 * first) (64 * (first + n)) x && d) ≡ (ltb x 576 && d)
all_beside from to first n x d e f g w = grind (arith, nat_tests)
