-- C40, Text and X12 as they are counted and written.
use Rattle.std.proofs.Common.{◌≡◌, ℕ, Bool, zero, suc, ◌+◌, ◌-◌, ◌*◌, ◌/◌, ◌%◌, ◌<◌, ◌≤◌, ◌≢◌, ◌==◌, true, false, List, [], ◌∷◌, ◌++◌, length, take, drop, get_or, refl, sym, ap, ◌∙◌, arith, append_assoc, append-nil, length-append, add-one}
use Rattle.std.proofs.lemmas.List.{take_rest, take_more, get_or-drop}
use Rattle.std.proofs.lemmas.Bool.{ne_eqb}
use Rattle.vp_data_matrix.specs.declared.triple.Charset.{Charset}
use Rattle.vp_data_matrix.specs.Ascii.{ascii}
use Rattle.vp_data_matrix.specs.Triples.{latch, byte_values, values, pair, pairs, are_whole, largest, front, unlatch, triples}

-- a byte more
values_push : (set : Charset) (xs : List ℕ) (y : ℕ) → values set (xs ++ y ∷ []) ≡ values set xs ++ byte_values set y
values_push set [] y = append-nil (byte_values set y)
values_push set (x ∷ xs) y = ap (λ l. byte_values set x ++ l) (values_push set xs y) ∙ sym (append_assoc (byte_values set x) (values set xs) (byte_values set y))

pub values_more : (set : Charset) (src : List ℕ) (i : ℕ) → i < length src → values set (take (i + 1) src) ≡ values set (take i src) ++ byte_values set (get_or src i 0)
values_more set src i h = ap (values set) (take_more src i 0 h) ∙ values_push set (take i src) (get_or src i 0)

pub length-values_more : (set : Charset) (src : List ℕ) (i : ℕ) → i < length src → length (values set (take (i + 1) src)) ≡ length (values set (take i src)) + length (byte_values set (get_or src i 0))
length-values_more set src i h = ap length (values_more set src i h) ∙ length-append (values set (take i src)) (byte_values set (get_or src i 0))

pub small_rest : (n : ℕ) (xs : List ℕ) → ((k : ℕ) → get_or xs k 0 < 40) → (k : ℕ) → get_or (take n (drop 3 xs)) k 0 < 40
small_rest n xs h k = small_take n (drop 3 xs) (λ (j : ℕ). rw (get_or-drop 3 xs j 0) (h (3 + j))) k
  where
    small_take : (n : ℕ) (ys : List ℕ) → ((k : ℕ) → get_or ys k 0 < 40) → (k : ℕ) → get_or (take n ys) k 0 < 40
    small_take zero ys h k = omega arith
    small_take (suc n) [] h k = omega arith
    small_take (suc n) (y ∷ ys) h zero = h 0
    small_take (suc n) (y ∷ ys) h (suc k) = small_take n ys (λ (j : ℕ). h (suc j)) k

-- the longest front
pub largest_whole : (set : Charset) (src : List ℕ) (n count : ℕ) → count ≡ length (values set (take (n + 1) src)) → count % 3 ≡ 0 → largest (are_whole set src) (n + 1) ≡ n + 1
largest_whole set src n count e h =
    let is : are_whole set src (suc n) ≡ true = ap (λ k. are_whole set src k) (sym (add-one n)) ∙ ap (λ k. k % 3 == 0) (sym e) ∙ ap (λ k. k == 0) h in
    rw (add-one, is) refl

pub largest_other : (set : Charset) (src : List ℕ) (n count : ℕ) → count ≡ length (values set (take (n + 1) src)) → count % 3 ≢ 0 → largest (are_whole set src) (n + 1) ≡ largest (are_whole set src) n
largest_other set src n count e h =
    let is : are_whole set src (suc n) ≡ false = ap (λ k. are_whole set src k) (sym (add-one n)) ∙ ap (λ k. k % 3 == 0) (sym e) ∙ ne_eqb (count % 3) 0 h in
    rw (add-one, is) refl

pub front_of : (set : Charset) (src : List ℕ) (n : ℕ) → n ≡ length src → largest (are_whole set src) n ≡ front set src
unfolding front
front_of set src n e = ap (largest (are_whole set src)) e

-- three values at a time
pub pairs_three : (xs : List ℕ) → 3 ≤ length xs → pairs xs ≡ pair (get_or xs 0 0) (get_or xs 1 0) (get_or xs 2 0) ++ pairs (take (length xs - 3) (drop 3 xs))
unfolding pairs
pairs_three [] h = absurd (omega arith)
pairs_three (a ∷ []) h = absurd (omega arith)
pairs_three (a ∷ b ∷ []) h = absurd (omega arith)
pairs_three (a ∷ b ∷ c ∷ rest) h = ap (λ l. pair a b c ++ pairs l) (sym (take_rest (a ∷ b ∷ c ∷ rest) 3))

pub pairs_none : (xs : List ℕ) → length xs < 3 → pairs xs ≡ []
unfolding pairs
pairs_none [] h = refl
pairs_none (a ∷ []) h = refl
pairs_none (a ∷ b ∷ []) h = refl
pairs_none (a ∷ b ∷ c ∷ rest) h = absurd (omega arith)

pub length-pairs : (xs : List ℕ) → length (pairs xs) ≡ 2 * (length xs / 3)
unfolding pairs
length-pairs [] = refl
length-pairs (a ∷ []) = refl
length-pairs (a ∷ b ∷ []) = refl
length-pairs (a ∷ b ∷ c ∷ rest) = omega (arith, length-pairs rest)

pub length-triples : (full : Bool) (set : Charset) (src : List ℕ) (n : ℕ) → n ≡ front set src
    → length (triples full set src) ≡ 1 + 2 * (length (values set (take n src)) / 3)
    + length (unlatch full (length (ascii (take (length src - n) (drop n src))))) + length (ascii (take (length src - n) (drop n src)))
unfolding triples
length-triples full set src n e =
    let packed : List ℕ = pairs (values set (take (front set src) src)) in
    let left : List ℕ = ascii (drop (front set src) src) in
    rw (e, take_rest src (front set src))
    (omega (arith, length-pairs (values set (take (front set src) src)), length-append packed (unlatch full (length left) ++ left), length-append (unlatch full (length left)) left))

-- the unlatch is one codeword or none
pub unlatch_spare : (left : ℕ) → length (unlatch false left) ≤ length (unlatch true left) + 1
unlatch_spare left = omega arith

-- the latch, the triples, the unlatch and what is left
pub triples_written : (full : Bool) (set : Charset) (out one two three four src : List ℕ) (n : ℕ) → n ≡ front set src
    → one ≡ out ++ latch set ∷ [] → two ≡ one ++ pairs (values set (take n src)) → three ≡ two ++ unlatch full (length (ascii (take (length src - n) (drop n src))))
    → four ≡ three ++ ascii (take (length src - n) (drop n src)) → four ≡ out ++ triples full set src
unfolding triples
triples_written full set out one two three four src n is e f g h =
    let packed : List ℕ = pairs (values set (take n src)) in
    let left : List ℕ = ascii (drop n src) in
    let end : List ℕ = unlatch full (length left) in
    let same : take (length src - n) (drop n src) ≡ drop n src = take_rest src n in
    let ended : three ≡ two ++ end = g ∙ ap (λ l. two ++ unlatch full (length (ascii l))) same in
    let whole : four ≡ out ++ (latch set ∷ (packed ++ (end ++ left))) =
    h ∙ ap (λ l. three ++ ascii l) same
    ∙ ap (λ l. l ++ left) (ended ∙ ap (λ l. l ++ end) (f ∙ ap (λ l. l ++ packed) e))
    ∙ append_assoc ((out ++ latch set ∷ []) ++ packed) end left
    ∙ append_assoc (out ++ latch set ∷ []) packed (end ++ left)
    ∙ append_assoc out (latch set ∷ []) (packed ++ (end ++ left)) in
    whole ∙ ap (λ (k : ℕ). out ++ (latch set ∷ (pairs (values set (take k src)) ++ (unlatch full (length (ascii (drop k src))) ++ ascii (drop k src))))) is
