-- Numbers in base 900 as digits are put behind them, and their codewords.
use Rattle.std.proofs.Common.{◌≡◌, ℕ, zero, suc, ◌+◌, ◌-◌, ◌*◌, ◌/◌, ◌%◌, ◌<◌, ◌≤◌, List, [], ◌∷◌, ◌++◌, length, take, drop, get_or, replicate, refl, sym, ap, ◌∙◌, arith, add-one, append-nil, length-drop}
use Rattle.std.proofs.lemmas.List.{take_more, take_rest, take_all}
use Rattle.vp_pdf417.specs.Places.{cut, base_900}
use Rattle.vp_pdf417.specs.Numeric.{number, group, groups}
use Rattle.vp_pdf417.specs.Bytes.{six, by_six}

-- a place and the carry to the next
pub place_more : (t digit k word carry : ℕ) → cut (10 * t + digit) k ≡ 10 * cut t k + carry → word ≡ cut t k % 900
    → (10 * word + carry) % 900 ≡ cut (10 * t + digit) k % 900
place_more t digit k word carry e w = place (cut (10 * t + digit) k) (cut t k) word carry e w
  where
    place : (a b word carry : ℕ) → a ≡ 10 * b + carry → word ≡ b % 900 → (10 * word + carry) % 900 ≡ a % 900
    place a b word carry e w = omega arith

pub carry_more : (t digit k word carry : ℕ) → cut (10 * t + digit) k ≡ 10 * cut t k + carry → word ≡ cut t k % 900
    → cut (10 * t + digit) (k + 1) ≡ 10 * cut t (k + 1) + (10 * word + carry) / 900
carry_more t digit k word carry e w = rw add-one (carried (cut (10 * t + digit) k) (cut t k) word carry e w)
  where
    carried : (a b word carry : ℕ) → a ≡ 10 * b + carry → word ≡ b % 900 → a / 900 ≡ 10 * (b / 900) + (10 * word + carry) / 900
    carried a b word carry e w = omega arith

-- nothing is 0
pub cut_zero : (k : ℕ) → cut 0 k ≡ 0
cut_zero zero = refl
cut_zero (suc k) = ap (λ n. n / 900) (cut_zero k)

-- a digit more
pub number_more : (digits : List ℕ) (i : ℕ) → i < length digits → number 1 (take (i + 1) digits) ≡ 10 * number 1 (take i digits) + get_or digits i 0 % 16
number_more digits i h = ap (number 1) (take_more digits i 0 h) ∙ behind 1 (take i digits) (get_or digits i 0)
  where
    behind : (t : ℕ) (xs : List ℕ) (x : ℕ) → number t (xs ++ x ∷ []) ≡ 10 * number t xs + x % 16
    behind t [] x = refl
    behind t (y ∷ xs) x = behind (10 * t + y % 16) xs x

-- a place of n, the highest first
pub base_more : (n k t : ℕ) → k < n → base_900 (n - k) t ≡ cut t (n - 1 - k) % 900 ∷ base_900 (n - (k + 1)) t
base_more n k t h =
    let e : n - k ≡ suc (n - 1 - k) = omega arith in
    let f : n - 1 - k ≡ n - (k + 1) = omega arith in
    rw e (ap (λ m. cut t (n - 1 - k) % 900 ∷ base_900 m t) f)

pub base_none : (n k t : ℕ) → n ≤ k → base_900 (n - k) t ≡ []
base_none n k t h =
    let e : n - k ≡ 0 = omega arith in
    rw e refl

-- how many groups there are
abbrev pub groups_of : List ℕ → List ℕ
groups_of src = groups ((length src + 43) / 44) src

pub groups_more : (xs : List ℕ) → 44 < length xs → groups_of xs ≡ group (take 44 xs) ++ groups_of (drop 44 xs)
groups_more xs h =
    let e : (length xs + 43) / 44 ≡ suc ((length (drop 44 xs) + 43) / 44) = omega (arith, length-drop 44 xs) in
    rw e refl

pub groups_last : (xs : List ℕ) → 0 < length xs → length xs ≤ 44 → groups_of xs ≡ group xs
groups_last xs some few =
    let e : (length xs + 43) / 44 ≡ 1 = omega arith in
    rw e (append-nil (group (take 44 xs)) ∙ ap group (take_all 44 xs few))

-- six bytes
pub six_more : (xs : List ℕ) → 6 ≤ length xs → by_six xs
    ≡ base_900 5 (six (get_or xs 0 0) (get_or xs 1 0) (get_or xs 2 0) (get_or xs 3 0) (get_or xs 4 0) (get_or xs 5 0)) ++ by_six (take (length xs - 6) (drop 6 xs))
unfolding by_six
six_more [] h = absurd (omega arith)
six_more (a ∷ []) h = absurd (omega arith)
six_more (a ∷ b ∷ []) h = absurd (omega arith)
six_more (a ∷ b ∷ c ∷ []) h = absurd (omega arith)
six_more (a ∷ b ∷ c ∷ d ∷ []) h = absurd (omega arith)
six_more (a ∷ b ∷ c ∷ d ∷ e ∷ []) h = absurd (omega arith)
six_more (a ∷ b ∷ c ∷ d ∷ e ∷ f ∷ rest) h =
    ap (λ (l : List ℕ). base_900 5 (six a b c d e f) ++ by_six l) (sym (take_rest (a ∷ b ∷ c ∷ d ∷ e ∷ f ∷ rest) 6))

pub six_few : (xs : List ℕ) → length xs < 6 → by_six xs ≡ xs
unfolding by_six
six_few [] h = refl
six_few (a ∷ []) h = refl
six_few (a ∷ b ∷ []) h = refl
six_few (a ∷ b ∷ c ∷ []) h = refl
six_few (a ∷ b ∷ c ∷ d ∷ []) h = refl
six_few (a ∷ b ∷ c ∷ d ∷ e ∷ []) h = refl
six_few (a ∷ b ∷ c ∷ d ∷ e ∷ f ∷ rest) h = absurd (omega arith)

-- zeros are the places of 0
pub zero_places : (n k : ℕ) → get_or {A = ℕ} (replicate {A = ℕ} n 0) k 0 ≡ cut 0 k % 900
zero_places n k = zeros n k ∙ ap (λ t. t % 900) (sym (cut_zero k))
  where
    zeros : (n k : ℕ) → get_or {A = ℕ} (replicate {A = ℕ} n 0) k 0 ≡ 0
    zeros zero k = refl
    zeros (suc n) zero = refl
    zeros (suc n) (suc k) = zeros n k
