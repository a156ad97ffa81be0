-- Codewords of bits, one by one.
use Rattle.std.proofs.Common.{◌≡◌, ℕ, zero, suc, ◌+◌, ◌-◌, ◌*◌, ◌^◌, ◌<◌, ◌≤◌, Bool, true, false, List, [], ◌∷◌, ◌++◌, length, get_or, cond, refl, sym, ap, ◌∙◌, arith, append_assoc, append-nil, length-append}
use Rattle.std.proofs.lemmas.Bool.{le-leb, lt-leb}
use Rattle.std.proofs.Math.Nat.{pow-succ'}
use Rattle.std.proofs.Math.Pow.{pow_mono}
use Rattle.vp_aztec.specs.Stuffing.{value, word, taken, words_from}

-- a number of n bits
pub value_small : (bits : List Bool) (i n : ℕ) → value bits i n < 2 ^ n
unfolding value
value_small bits i zero = omega arith
value_small bits i (suc n) = by_bit (get_or bits (i + n) true) (value bits i n) (2 ^ n) (2 ^ suc n) (pow-succ' 2 n) (value_small bits i n)
  where
    by_bit : (b : Bool) (v p q : ℕ) → q ≡ 2 * p → v < p → 2 * v + cond b 1 0 < q
    by_bit true v p q e h = omega (arith, e, h)
    by_bit false v p q e h = omega (arith, e, h)

pub value_below : (bits : List Bool) (i n v : ℕ) → n ≤ 12 → v ≡ value bits i n → v < 4097
value_below bits i n v h e = omega (arith, value_small bits i n, pow_mono {i = n} {j = 12} h, e)

pub value_none : (bits : List Bool) (i : ℕ) → value bits i 0 ≡ 0
unfolding value
value_none bits i = refl

pub value_more : (bits : List Bool) (i k : ℕ) → value bits i (k + 1) ≡ 2 * value bits i k + cond (get_or bits (i + k) true) 1 0
unfolding value
value_more bits i k =
    let e : k + 1 ≡ suc k = omega arith in
    rw e refl

-- a codeword more, and none
pub words_more : (n k w : ℕ) (bits : List Bool) (i : ℕ) → k < n → i < length bits
    → words_from (n - k) w bits i ≡ word w bits i ∷ words_from (n - (k + 1)) w bits (i + taken w bits i)
unfolding words_from
words_more n k w bits i h some =
    let e : n - k ≡ suc (n - (k + 1)) = omega arith in
    rw (e, lt-leb (length bits) i some) refl

pub words_past : (n w : ℕ) (bits : List Bool) (i : ℕ) → length bits ≤ i → words_from n w bits i ≡ []
unfolding words_from
words_past zero w bits i h = refl
words_past (suc n) w bits i h = rw (le-leb (length bits) i h) refl

pub words_end : (n k w : ℕ) (bits : List Bool) (i : ℕ) → n ≤ k → words_from (n - k) w bits i ≡ []
unfolding words_from
words_end n k w bits i h =
    let e : n - k ≡ 0 = omega arith in
    rw e refl

-- how many codewords there are when one more is taken, and when none is left
pub count_more : (n k w : ℕ) (bits : List Bool) (i t all count : ℕ) → k < n → i < length bits → t ≡ taken w bits i
    → count + length (words_from (n - k) w bits i) ≡ all → count + 1 + length (words_from (n - (k + 1)) w bits (i + t)) ≡ all
count_more n k w bits i t all count lt some e h =
    rw e (omega (arith, ap length (words_more n k w bits i lt some), h))

-- a codeword is written
pub word_written : (n k w : ℕ) (bits : List Bool) (i t x : ℕ) (items new all : List ℕ) → k < n → i < length bits → x ≡ word w bits i → t ≡ taken w bits i → new ≡ items ++ x ∷ []
    → items ++ words_from (n - k) w bits i ≡ all → new ++ words_from (n - (k + 1)) w bits (i + t) ≡ all
word_written n k w bits i t x items new all lt some ex et en h =
    rw (en, ex, et) (append_assoc items (word w bits i ∷ []) (words_from (n - (k + 1)) w bits (i + taken w bits i))
    ∙ ap (λ (l : List ℕ). items ++ l) (sym (words_more n k w bits i lt some)) ∙ h)

-- there is room for one that is still to be written
pub word_room : (n k w : ℕ) (bits : List Bool) (i : ℕ) (items all : List ℕ) → k < n → i < length bits → length all ≤ 1664
    → items ++ words_from (n - k) w bits i ≡ all → length items < 1664
word_room n k w bits i items all lt some most h =
    omega (arith, ap length (words_more n k w bits i lt some), ap length h, length-append items (words_from (n - k) w bits i), most)

pub small_push : (n : ℕ) (xs new : List ℕ) (x : ℕ) → new ≡ xs ++ x ∷ [] → ((j : ℕ) → get_or xs j 0 < n) → x < n → (j : ℕ) → get_or new j 0 < n
small_push n xs new x e h lt j = rw e (small n xs x h lt j)
  where
    small : (n : ℕ) (xs : List ℕ) (x : ℕ) → ((j : ℕ) → get_or xs j 0 < n) → x < n → (j : ℕ) → get_or (xs ++ x ∷ []) j 0 < n
    small n [] x h lt zero = lt
    small n [] x h lt (suc j) = omega arith
    small n (y ∷ xs) x h lt zero = h 0
    small n (y ∷ xs) x h lt (suc j) = small n xs x (λ (k : ℕ). h (suc k)) lt j

pub words_done : (items rest all : List ℕ) → rest ≡ [] → items ++ rest ≡ all → items ≡ all
words_done items rest all e h = sym (append-nil items) ∙ ap (λ (l : List ℕ). items ++ l) (sym e) ∙ h
