-- Sums over the modules of a row, and the ones among a number's bits.
use Rattle.std.proofs.Common.{◌≡◌, ℕ, zero, suc, ◌+◌, ◌-◌, ◌*◌, ◌/◌, ◌%◌, ◌^◌, ◌<◌, ◌≤◌, Bool, eqb, cond, List, get_or, refl, sym, ap, ◌∙◌, arith, ◌∷◌, bit_and, pow-suc, add_assoc}
use lib.Count.{ones}
use Rattle.std.specs.Int.{bit_at}
use Rattle.std.proofs.lemmas.Nat.{div_below, ones_cat, one_shl, and_mask, div-add-mod', mod_below, pow_pos}
use Rattle.std.proofs.lemmas.Nat.Bits.{bit_at-lt, bit_at_cat_low}
use Rattle.vp_qr.specs.Penalty.{is_set, sum_below, line_from, lines_penalty, squares_penalty, dark_modules, penalty}
use Rattle.vp_qr.specs.Walk.{dark}

pub sum_more : (n : ℕ) (f : ℕ → ℕ) → sum_below (n + 1) f ≡ sum_below n f + f n
sum_more n f = grind arith

pub sum_same : (n : ℕ) (f g : ℕ → ℕ) → ((k : ℕ) → k < n → f k ≡ g k) → sum_below n f ≡ sum_below n g
sum_same zero f g h = refl
sum_same (suc n) f g h = ap (λ m. m + f n) (sum_same n f g (λ k lt. h k (omega arith))) ∙ ap (λ m. sum_below n g + m) (h n (omega arith))

pub sum_most : (n : ℕ) (f : ℕ → ℕ) → ((k : ℕ) → f k < 2) → sum_below n f ≤ n
sum_most zero f h = omega arith
sum_most (suc n) f h = omega (arith, sum_most n f h, h n)

pub sum_front : (n : ℕ) (f : ℕ → ℕ) → sum_below (suc n) f ≡ f 0 + sum_below n (λ i. f (suc i))
sum_front zero f = omega arith
sum_front (suc n) f = ap (λ m. m + f (suc n)) (sum_front n f) ∙ add_assoc (f 0) (sum_below n (λ i. f (suc i))) (f (suc n))

pub sum_plus : (n : ℕ) (f g : ℕ → ℕ) → sum_below n (λ i. f i + g i) ≡ sum_below n f + sum_below n g
sum_plus zero f g = refl
sum_plus (suc n) f g = omega (arith, sum_plus n f g)

pub sum_twice : (n : ℕ) (f : ℕ → ℕ) → sum_below n (λ i. 2 * f i) ≡ 2 * sum_below n f
sum_twice zero f = refl
sum_twice (suc n) f = omega (arith, sum_twice n f)

pub sum_forty : (n : ℕ) (f : ℕ → ℕ) → sum_below n (λ i. 40 * f i) ≡ 40 * sum_below n f
sum_forty zero f = refl
sum_forty (suc n) f = omega (arith, sum_forty n f)

sum_none : (n : ℕ) → sum_below n (λ _. 0) ≡ 0
sum_none zero = refl
sum_none (suc n) = omega (arith, sum_none n)

pub sum_swap : (n m : ℕ) (f : ℕ → ℕ → ℕ) → sum_below n (λ i. sum_below m (λ j. f i j)) ≡ sum_below m (λ j. sum_below n (λ i. f i j))
sum_swap zero m f = sym (sum_none m)
sum_swap (suc n) m f =
    ap (λ k. k + sum_below m (λ j. f n j)) (sum_swap n m f) ∙ sym (sum_plus m (λ j. sum_below n (λ i. f i j)) (λ j. f n j))

ones_bit : (b : ℕ) → b < 2 → ones b ≡ b
unfolding ones
ones_bit b h = grind arith

-- the ones among a number's bits
ones_none : ones 0 ≡ 0
unfolding ones
ones_none = refl

ones_sum : (k n : ℕ) → n < 2 ^ k → ones n ≡ sum_below k (bit_at n)
ones_sum zero n h = grind (arith, ones_none)
ones_sum (suc k) n h =
    let whole : n / 2 ^ k * 2 ^ k + n % 2 ^ k ≡ n = div-add-mod' n (2 ^ k) in
    let low : n % 2 ^ k < 2 ^ k = mod_below n (2 ^ k) (pow_pos k) in
    let high : n / 2 ^ k < 2 = div_below n (2 ^ k) 2 (pow_pos k) (omega (arith, pow-suc 2 k)) in
    let same = sum_same k (bit_at (n % 2 ^ k)) (bit_at n) (λ j lt. sym (bit_at_cat_low (n / 2 ^ k) k (n % 2 ^ k) j lt) ∙ ap (λ m. bit_at m j) whole) in
    omega (arith, ap ones whole, ones_cat k (n / 2 ^ k) (n % 2 ^ k) low, ones_bit (n / 2 ^ k) high, ones_sum k (n % 2 ^ k) low, same)

pub ones_masked : (row n : ℕ) → n ≤ 57 → ones (bit_and row (1 * 2 ^ n % 2 ^ 64 - 1)) ≡ sum_below n (λ j. bit_at row j)
ones_masked row n h =
    ap ones (ap (λ m. bit_and row (m - 1)) (one_shl n 64 (omega arith)) ∙ and_mask row n)
    ∙ ones_sum n (row % 2 ^ n) (mod_below row (2 ^ n) (pow_pos n))
    ∙ sum_same n (bit_at (row % 2 ^ n)) (bit_at row) (λ j lt. sym (bit_at_cat_low (row / 2 ^ n) n (row % 2 ^ n) j lt) ∙ ap (λ m. bit_at m j) (div-add-mod' row (2 ^ n)))

pub ones_most : (row n : ℕ) → n ≤ 57 → ones (bit_and row (1 * 2 ^ n % 2 ^ 64 - 1)) ≤ 57
ones_most row n h = omega (arith, ones_masked row n h, sum_most n (λ j. bit_at row j) (bit_at-lt row))

-- equal lines
pub line_moved : (f g : ℕ → Bool) (n at place : ℕ) → ((k : ℕ) → k < n → f (at + k) ≡ g (place + k)) → line_from f at n ≡ line_from g place n
line_moved f g zero at place h = refl
line_moved f g (suc n) at place h =
    let a : at ≡ at + 0 = omega arith in
    let b : place + 0 ≡ place = omega arith in
    ap (λ c. c ∷ line_from f (at + 1) n) (ap f a ∙ h 0 (omega arith) ∙ ap g b)
    ∙ ap (λ l. g place ∷ l) (line_moved f g n (at + 1) (place + 1) (λ k lt. ap f (after at k) ∙ h (suc k) (omega arith) ∙ ap g (sym (after place k))))
  where
    after : (n k : ℕ) → n + 1 + k ≡ n + suc k
    after n k = omega arith

pub line_same : (f g : ℕ → Bool) (n at : ℕ) → ((j : ℕ) → at ≤ j → j < at + n → f j ≡ g j) → line_from f at n ≡ line_from g at n
line_same f g n at h = line_moved f g n at at (λ k lt. h (at + k) (omega arith) (omega arith))

bit_as_one : (b : ℕ) → b < 2 → b ≡ cond (eqb b 1) 1 0
bit_as_one b h = grind arith

-- the set bits of a word whose modules are known
pub sum_set : (word n : ℕ) (p : ℕ → Bool) → ((j : ℕ) → j < n → is_set word j ≡ p j) → sum_below n (λ j. bit_at word j) ≡ sum_below n (λ j. cond (p j) 1 0)
sum_set word n p h = sum_same n (λ j. bit_at word j) (λ j. cond (p j) 1 0) (λ j lt. bit_as_one (bit_at word j) (bit_at-lt word j) ∙ ap (λ b. cond b 1 0) (h j lt))

-- the dark modules of a row
pub dark_in_row : (rows : List ℕ) (i n : ℕ) → sum_below n (λ j. bit_at (get_or rows i 0) j) ≡ sum_below n (λ j. cond (dark rows i j) 1 0)
unfolding dark
dark_in_row rows i n = sum_same n (λ j. bit_at (get_or rows i 0) j) (λ j. cond (dark rows i j) 1 0) (λ j h. bit_as_one (bit_at (get_or rows i 0) j) (bit_at-lt (get_or rows i 0) j))

-- symbols that are the same below a size have the same penalty
module _ (f g : ℕ → ℕ → Bool) (s : ℕ) (h : (i j : ℕ) → i < s → j < s → f i j ≡ g i j) where
  lines_same : lines_penalty f s ≡ lines_penalty g s
  lines_same = grind (arith, sum_same, line_same)

  pub squares_same : squares_penalty f s ≡ squares_penalty g s
  squares_same = grind (arith, sum_same)

  pub dark_same : dark_modules f s ≡ dark_modules g s
  dark_same = grind (arith, sum_same)

pub penalty_same : (f g : ℕ → ℕ → Bool) (s : ℕ) → ((i j : ℕ) → i < s → j < s → f i j ≡ g i j) → penalty f s ≡ penalty g s
unfolding penalty
penalty_same f g s h = grind (arith, lines_same, squares_same, dark_same)
