-- Symbols in the order of their codes.
use Rattle.std.proofs.Common.{◌≡◌, ℕ, zero, suc, ◌+◌, ◌<◌, ◌≤◌, Bool, true, false, eqb, cond, List, [], ◌∷◌, ◌++◌, length, drop, get_or, refl, ap, ◌∙◌, arith, length-append, eq-eqb, ◌≢◌, add-one}
use Rattle.std.proofs.lemmas.List.{at_drop_more, at_drop_all}
use Rattle.std.proofs.lemmas.Bool.Decides.{nat_tests}
use Rattle.vp_inflate.specs.Codes.{count, counts, symbols_from, ordered}

pub count_more : (n : ℕ) (ls : List ℕ) (i : ℕ) → i < length ls → count n (drop i ls) ≡ cond (eqb (get_or ls i 0) n) 1 0 + count n (drop (i + 1) ls)
unfolding count
count_more n ls i h = at_drop_more (count n) ls i 0 h

pub count_none : (n : ℕ) (ls : List ℕ) (i : ℕ) → length ls ≤ i → count n (drop i ls) ≡ 0
unfolding count
count_none n ls i h = at_drop_all (count n) ls i h

pub symbols_more : (k n : ℕ) (ls : List ℕ) (i : ℕ) → i < length ls → symbols_from k n (drop i ls)
    ≡ cond (eqb (get_or ls i 0) n) (k ∷ symbols_from (k + 1) n (drop (i + 1) ls)) (symbols_from (k + 1) n (drop (i + 1) ls))
unfolding symbols_from
symbols_more k n ls i h = at_drop_more (symbols_from k n) ls i 0 h

pub symbols_none : (k n : ℕ) (ls : List ℕ) (i : ℕ) → length ls ≤ i → symbols_from k n (drop i ls) ≡ []
unfolding symbols_from
symbols_none k n ls i h = at_drop_all (symbols_from k n) ls i h

pub length_symbols : (k n : ℕ) (ls : List ℕ) → length (symbols_from k n ls) ≡ count n ls
unfolding symbols_from count
length_symbols k n [] = refl
length_symbols k n (l ∷ ls) = by_test (eqb l n) (symbols_from (k + 1) n ls) (count n ls) (length_symbols (k + 1) n ls)
  where
    by_test : (b : Bool) (xs : List ℕ) (m : ℕ) → length xs ≡ m → length (cond b (k ∷ xs) xs) ≡ cond b 1 0 + m
    by_test true xs m h = omega (arith, h)
    by_test false xs m h = omega (arith, h)

pub count_yes : (n : ℕ) (ls : List ℕ) (i : ℕ) → i < length ls → get_or ls i 0 ≡ n → count n (drop i ls) ≡ 1 + count n (drop (i + 1) ls)
count_yes n ls i h e = count_more n ls i h ∙ ap (λ (b : Bool). cond b 1 0 + count n (drop (i + 1) ls)) (eq-eqb (get_or ls i 0) n e)

pub count_no : (n : ℕ) (ls : List ℕ) (i : ℕ) → i < length ls → get_or ls i 0 ≢ n → count n (drop i ls) ≡ count n (drop (i + 1) ls)
count_no n ls i h e =
    let t : eqb (get_or ls i 0) n ≡ false = grind (arith, nat_tests) in
    omega (arith, count_more n ls i h ∙ ap (λ (b : Bool). cond b 1 0 + count n (drop (i + 1) ls)) t)

pub symbols_yes : (n : ℕ) (ls : List ℕ) (i : ℕ) → i < length ls → get_or ls i 0 ≡ n → symbols_from i n (drop i ls) ≡ i ∷ symbols_from (i + 1) n (drop (i + 1) ls)
symbols_yes n ls i h e = symbols_more i n ls i h
    ∙ ap (λ (b : Bool). cond b (i ∷ symbols_from (i + 1) n (drop (i + 1) ls)) (symbols_from (i + 1) n (drop (i + 1) ls))) (eq-eqb (get_or ls i 0) n e)

pub symbols_no : (n : ℕ) (ls : List ℕ) (i : ℕ) → i < length ls → get_or ls i 0 ≢ n → symbols_from i n (drop i ls) ≡ symbols_from (i + 1) n (drop (i + 1) ls)
symbols_no n ls i h e =
    let t : eqb (get_or ls i 0) n ≡ false = grind (arith, nat_tests) in
    symbols_more i n ls i h ∙ ap (λ (b : Bool). cond b (i ∷ symbols_from (i + 1) n (drop (i + 1) ls)) (symbols_from (i + 1) n (drop (i + 1) ls))) t

-- no more symbols are ordered than there are
total : ℕ → List ℕ → ℕ
total zero ls = 0
total (suc n) ls = total n ls + count (suc n) ls

length_ordered : (n : ℕ) (ls : List ℕ) → length (ordered n ls) ≡ total n ls
unfolding ordered total
length_ordered zero ls = refl
length_ordered (suc n) ls = omega (arith, length-append (ordered n ls) (symbols_from 0 (suc n) ls), length_symbols 0 (suc n) ls, length_ordered n ls)

total_nil : (n : ℕ) → total n [] ≡ 0
unfolding total count
total_nil zero = refl
total_nil (suc n) = omega (arith, total_nil n)

-- of one length, how many there are among 1 to n
own : ℕ → ℕ → ℕ
own zero l = 0
own (suc n) l = own n l + cond (eqb l (suc n)) 1 0

own_above : (n l : ℕ) → n < l → own n l ≡ 0
unfolding own
own_above zero l h = refl
own_above (suc n) l h =
    let t : eqb l (suc n) ≡ false = grind (arith, nat_tests) in
    rw t (omega (arith, own_above n l (omega arith)))

own_once : (n l : ℕ) → own n l ≤ 1
unfolding own
own_once zero l = omega arith
own_once (suc n) l = by_test (eqb l (suc n)) refl (own_once n l) (own_above n l)
  where
    by_test : (b : Bool) → eqb l (suc n) ≡ b → own n l ≤ 1 → (n < l → own n l ≡ 0) → own n l + cond b 1 0 ≤ 1
    by_test true e once above = let same : l ≡ suc n = grind (arith, nat_tests) in omega (arith, above (omega arith))
    by_test false e once above = omega arith

total_cons : (n l : ℕ) (ls : List ℕ) → total n (l ∷ ls) ≡ own n l + total n ls
unfolding total own count
total_cons zero l ls = refl
total_cons (suc n) l ls = omega (arith, total_cons n l ls)

total_within : (n : ℕ) (ls : List ℕ) → total n ls ≤ length ls
total_within n [] = omega (arith, total_nil n)
total_within n (l ∷ ls) = omega (arith, total_cons n l ls, own_once n l, total_within n ls)

pub room_for : (n : ℕ) (ls : List ℕ) → length (ordered n ls) + count (n + 1) ls ≤ length ls
unfolding total
room_for n ls =
    let e : total (n + 1) ls ≡ total n ls + count (n + 1) ls = rw add-one refl in
    omega (arith, length_ordered n ls, total_within (n + 1) ls, e)

pub ordered_more : (n : ℕ) (ls : List ℕ) → ordered (n + 1) ls ≡ ordered n ls ++ symbols_from 0 (n + 1) ls
unfolding ordered
ordered_more n ls = rw add-one refl

pub counts_more : (n : ℕ) (ls : List ℕ) → counts (n + 1) ls ≡ counts n ls ++ count (n + 1) ls ∷ []
unfolding counts
counts_more n ls = rw add-one refl

pub ordered_none : (ls : List ℕ) → ordered 0 ls ≡ []
unfolding ordered
ordered_none ls = refl

pub counts_none : (ls : List ℕ) → counts 0 ls ≡ []
unfolding counts
counts_none ls = refl

pub length_counts : (n : ℕ) (ls : List ℕ) → length (counts n ls) ≡ n
unfolding counts
length_counts zero ls = refl
length_counts (suc n) ls = omega (arith, length-append (counts n ls) (count (suc n) ls ∷ []), length_counts n ls)
