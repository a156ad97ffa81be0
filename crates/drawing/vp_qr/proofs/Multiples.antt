-- Polynomials in rows of 32 coefficients, zeros behind their last, and their multiples.
use Rattle.std.proofs.Common.{◌≡◌, ℕ, zero, suc, ◌+◌, ◌-◌, ◌*◌, ◌/◌, ◌%◌, ◌<◌, ◌≤◌, List, [], ◌∷◌, ◌++◌, length, replicate, drop, take, refl, sym, ap, ◌∙◌, subst, arith, bit_xor, get_or, set, get_or-set_same, get_or-set_other, cond, eqb, length-append, append_assoc, length-set}
use Rattle.std.proofs.lemmas.List.{length-replicate, drop_all, ext_get_or, replicate-append-replicate}
use Rattle.std.proofs.Math.Seq.{take-append_seam}
use Rattle.std.specs.Int.Bits.{xor_zero_l, xor_zero_r}
use Rattle.vp_qr.specs.Field.{doubled, times, power}
use Rattle.vp_qr.specs.Polynomial.{plus, scaled, generator, divided, check_of}
use Rattle.vp_qr.specs.Divisors.{low_row}
use Rattle.vp_qr.proofs.FieldLaws.{times_zero, zero_times, times_comm, times_half}
use Rattle.vp_qr.proofs.Division.{Bytes, Monic, generator_monic, generator_more, length_scaled, length-plus_second, plus_zeros, zeros_plus, Registers, registers_all, length_check, length_step}

-- zeros behind the last term

pub get_or-zeros : (m k : ℕ) → ◌≡◌ {A = ℕ} (get_or (replicate m 0) k 0) 0
get_or-zeros zero k = refl
get_or-zeros (suc m) zero = refl
get_or-zeros (suc m) (suc k) = get_or-zeros m k

pub get_or-padded : (m k : ℕ) (xs : List ℕ) → get_or (xs ++ replicate m 0) k 0 ≡ get_or xs k 0
get_or-padded m k [] = get_or-zeros m k
get_or-padded m zero (x ∷ xs) = refl
get_or-padded m (suc k) (x ∷ xs) = get_or-padded m k xs

pub get_or-plus : (xs ys : List ℕ) (k : ℕ) → get_or (plus xs ys) k 0 ≡ bit_xor (get_or xs k 0) (get_or ys k 0)
get_or-plus [] ys k = sym (xor_zero_l (get_or ys k 0))
get_or-plus (x ∷ xs) [] k = sym (xor_zero_r (get_or (x ∷ xs) k 0))
get_or-plus (x ∷ xs) (y ∷ ys) zero = refl
get_or-plus (x ∷ xs) (y ∷ ys) (suc k) = get_or-plus xs ys k

pub get_or-scaled : (c : ℕ) (xs : List ℕ) (k : ℕ) → get_or (scaled c xs) k 0 ≡ times c (get_or xs k 0)
get_or-scaled c [] k = sym (times_zero c)
get_or-scaled c (x ∷ xs) zero = refl
get_or-scaled c (x ∷ xs) (suc k) = get_or-scaled c xs k

scaled_zeros : (c m : ℕ) → scaled c (replicate m 0) ≡ replicate m 0
scaled_zeros c zero = refl
scaled_zeros c (suc m) = ap (λ (k : ℕ). k ∷ scaled c (replicate m 0)) (times_zero c) ∙ ap (λ (k : List ℕ). 0 ∷ k) (scaled_zeros c m)

scaled_padded : (c m : ℕ) (xs : List ℕ) → scaled c (xs ++ replicate m 0) ≡ scaled c xs ++ replicate m 0
scaled_padded c m [] = scaled_zeros c m
scaled_padded c m (x ∷ xs) = ap (λ (k : List ℕ). times c x ∷ k) (scaled_padded c m xs)

plus_padded : (m : ℕ) (xs ys : List ℕ) → length ys ≤ length xs → plus (xs ++ replicate m 0) (ys ++ replicate m 0) ≡ plus xs ys ++ replicate m 0
plus_padded m [] [] h = zeros_plus m (replicate m 0) (length-replicate {A = ℕ} m 0)
plus_padded m [] (y ∷ ys) h = absurd (omega arith)
plus_padded m (x ∷ xs) [] h = plus_zeros m (x ∷ (xs ++ replicate m 0)) (omega (arith, length-append xs (replicate m 0), length-replicate {A = ℕ} m 0))
plus_padded m (x ∷ xs) (y ∷ ys) h = ap (λ (k : List ℕ). bit_xor x y ∷ k) (plus_padded m xs ys (omega arith))

step_padded : (m x : ℕ) (g xs : List ℕ) → length g ≤ length (x ∷ xs)
    → drop 1 (plus ((x ∷ xs) ++ replicate m 0) (scaled x (g ++ replicate m 0))) ≡ drop 1 (plus (x ∷ xs) (scaled x g)) ++ replicate m 0
step_padded m x g xs h = grind (arith, scaled_padded x m g, plus_padded m (x ∷ xs) (scaled x g), length_scaled x g)

-- they change no remainder
divided_padded : (m n k : ℕ) (g xs : List ℕ) → Monic g n → n + k ≤ length xs → divided (g ++ replicate m 0) k (xs ++ replicate m 0) ≡ divided g k xs ++ replicate m 0
unfolding divided
divided_padded m n zero g xs monic room = refl
divided_padded m n (suc k) g [] monic room = absurd (omega arith)
divided_padded m n (suc k) g (x ∷ xs) monic room = grind (arith, step_padded, length_step, divided_padded m n k g (drop 1 (plus (x ∷ xs) (scaled x g))) monic)

-- a row whose first terms are those of a function, and one more
pub term_made : {A : Type 0} (f : ℕ → A) (xs : List A) (i : ℕ) (x d : A) → i < length xs → x ≡ f i → ((j : ℕ) → j < i → get_or xs j d ≡ f j)
    → (j : ℕ) → j < i + 1 → get_or (set xs i x) j d ≡ f j
term_made f xs i x d lt here before j h = grind (arith, get_or-set_other, get_or-set_same)

-- the generator in a row

one_before : (n : ℕ) → 1 ∷ drop 1 (generator n) ≡ generator n
one_before n = ap (λ (g : List ℕ). 1 ∷ drop 1 g) (generator_monic n).is ∙ sym (generator_monic n).is

length_low : (n : ℕ) → length (drop 1 (generator n)) ≡ n
length_low n = ap (λ (g : List ℕ). length (drop 1 g)) (generator_monic n).is ∙ (generator_monic n).degree

pub length_row : (n : ℕ) → n ≤ 32 → length (low_row n) ≡ 32
length_row n h = omega (arith, length-append (drop 1 (generator n)) (replicate (32 - n) 0), length_low n, length-replicate {A = ℕ} (32 - n) 0)

pub row_none : replicate 32 0 ≡ low_row 0
unfolding generator
row_none = refl

root_term : (i root k : ℕ) (row : List ℕ) → row ≡ low_row i
    → bit_xor (get_or row k 0) (times root (get_or (1 ∷ row) k 0)) ≡ get_or (plus (drop 1 (generator i) ++ 0 ∷ []) (scaled root (1 ∷ drop 1 (generator i)))) k 0
root_term i root k row is =
    grind (arith, get_or-padded (32 - i) k (drop 1 (generator i)), get_or-padded 1 k (drop 1 (generator i)), get_or-padded (32 - i) k (1 ∷ drop 1 (generator i)), get_or-scaled root (1 ∷ drop 1 (generator i)) k, get_or-plus)

pub row_more : (i root : ℕ) (row new : List ℕ) → i < 30 → row ≡ low_row i → root ≡ power i → length new ≡ 32
    → ((k : ℕ) → k < 32 → get_or new k 0 ≡ bit_xor (get_or row k 0) (times root (get_or (1 ∷ row) k 0))) → new ≡ low_row (i + 1)
row_more i root row new h is at len terms =
    let low : List ℕ = drop 1 (generator i) in
    let e = generator_more i root low (plus (low ++ 0 ∷ []) (scaled root (1 ∷ low))) (one_before i) at refl in
    ext_get_or 0 new (low_row (i + 1)) (len ∙ sym (length_row (i + 1) (omega arith)))
    (λ k lt. rw (terms k (omega arith), root_term i root k row is, get_or-padded (32 - (i + 1)) k (drop 1 (generator (i + 1))), ← e) refl)

pub root_product : (low : List ℕ) (root above k product : ℕ) → ((i : ℕ) → get_or low i 0 < 256) → root < 256 → above ≡ get_or (1 ∷ low) k 0
    → product ≡ times above root → product ≡ times root (get_or (1 ∷ low) k 0)
root_product low root above k product bytes hr is e = grind (arith, times_comm)

-- its multiples

pub multiple_none : (n : ℕ) → n ≤ 32 → replicate 32 0 ≡ scaled 0 (low_row n)
multiple_none n h = grind (arith, by_term (low_row n) 32, length_row n h)
  where
    by_term : (xs : List ℕ) (m : ℕ) → length xs ≡ m → replicate m 0 ≡ scaled 0 xs
    by_term [] zero e = refl
    by_term [] (suc m) e = absurd (omega arith)
    by_term (x ∷ xs) zero e = absurd (omega arith)
    by_term (x ∷ xs) (suc m) e = ap (λ (k : List ℕ). 0 ∷ k) (by_term xs m (omega arith)) ∙ ap (λ (k : ℕ). k ∷ scaled 0 xs) (sym (zero_times x))

pub multiples_none : (n : ℕ) (low : List ℕ) (rows : List (List ℕ)) → n ≤ 32 → low ≡ low_row n → 0 < length rows → get_or (set rows 0 (replicate {A = ℕ} 32 0)) 0 [] ≡ scaled 0 low
multiples_none n low rows h is some = get_or-set_same rows 0 (replicate {A = ℕ} 32 0) [] some ∙ multiple_none n h ∙ ap (scaled 0) (sym is)

byte_at : (xs : List ℕ) → Bytes xs → (k : ℕ) → get_or xs k 0 < 256
byte_at [] h k = omega arith
byte_at (x ∷ xs) h zero = h.0
byte_at (x ∷ xs) h (suc k) = byte_at xs h.1 k

pub row_byte : (n k : ℕ) → get_or (low_row n) k 0 < 256
row_byte n k =
    let m = generator_monic n in
    subst (λ (a : ℕ). a < 256) (sym (get_or-padded (32 - n) k (drop 1 (generator n)) ∙ ap (λ (g : List ℕ). get_or (drop 1 g) k 0) m.is)) (byte_at m.rest m.bytes k)

pub multiple_more : (f : ℕ) (half low new : List ℕ) → f < 256 → length low ≡ 32 → length new ≡ 32
    → ((k : ℕ) → get_or low k 0 < 256) → half ≡ scaled (f / 2) low
    → ((k : ℕ) → k < 32 → get_or new k 0 ≡ bit_xor (doubled (get_or half k 0)) (cond (eqb (f % 2) 1) (get_or low k 0) 0)) → new ≡ scaled f low
multiple_more f half low new hf hl hn bytes is terms = grind (arith, ext_get_or 0 new (scaled f low), length_scaled f low, get_or-scaled (f / 2) low, times_half f, get_or-scaled f low)

-- the multiples of twice an element and of the next one
pub two_multiples : (half : ℕ) (low : List ℕ) (rows : List (List ℕ)) (even odd : List ℕ) → half < 128 → length rows ≡ 256 → length low ≡ 32 → ((k : ℕ) → get_or low k 0 < 256)
    → get_or rows 0 [] ≡ scaled 0 low → ((g : ℕ) → g < 2 * half → get_or rows g [] ≡ scaled g low)
    → length even ≡ 32 → ((k : ℕ) → k < 32 → get_or even k 0 ≡ doubled (get_or (get_or rows half []) k 0))
    → length odd ≡ 32 → ((k : ℕ) → k < 32 → get_or odd k 0 ≡ bit_xor (get_or even k 0) (get_or low k 0))
    → (g : ℕ) → g < 2 * (half + 1) → get_or (set (set rows (2 * half) even) (2 * half + 1) odd) g [] ≡ scaled g low
two_multiples half low rows even odd hf long size bytes none before even_long even_terms odd_long odd_terms =
    let row : List ℕ = get_or rows half [] in
    let row_is : row ≡ scaled half low = grind arith in
    let even_half : 2 * half / 2 ≡ half = omega arith in
    let odd_half : (2 * half + 1) / 2 ≡ half = omega arith in
    let even_rest : 2 * half % 2 ≡ 0 = omega arith in
    let odd_rest : (2 * half + 1) % 2 ≡ 1 = omega arith in
    let even_is : even ≡ scaled (2 * half) low = multiple_more (2 * half) row low even (omega arith) size even_long bytes (rw even_half row_is) (λ k lt. rw (even_rest, xor_zero_r) (even_terms k lt)) in
    let odd_is : odd ≡ scaled (2 * half + 1) low = multiple_more (2 * half + 1) row low odd (omega arith) size odd_long bytes (rw odd_half row_is) (λ k lt. rw odd_rest (rw (even_terms k lt) at (odd_terms k lt))) in
    λ g h. term_made (λ g. scaled g low) (set rows (2 * half) even) (2 * half + 1) odd [] (omega (arith, length-set rows (2 * half) even)) odd_is
    (term_made (λ g. scaled g low) rows (2 * half) even [] (omega arith) even_is before) g (omega arith)

-- the register

pub moved : (register row new : List ℕ) → length register ≡ 32 → length row ≡ 32 → length new ≡ 32
    → ((k : ℕ) → k < 32 → get_or new k 0 ≡ bit_xor (get_or register (k + 1) 0) (get_or row k 0)) → new ≡ plus (drop 1 register) row
moved register row new hr hl hn terms = grind (arith, ext_get_or 0 new (plus (drop 1 register) row), length-plus_second (drop 1 register) row, get_or-plus)

-- its first n terms are the check
pub check_first : (n i : ℕ) (src register : List ℕ) → n ≤ 30 → length src ≤ i
    → Registers (low_row n) src 32 (drop i src) register → take n register ≡ check_of src n
unfolding check_of
check_first n i src register h done r =
    let m : ℕ = 32 - n in
    let none = drop_all i src done in
    let all = registers_all (low_row n) src 32 register (subst (λ (k : List ℕ). Registers (low_row n) src 32 k register) none r) in
    let split : 32 ≡ n + m = omega arith in
    let zeros : ◌≡◌ {A = List ℕ} (replicate 32 0) (replicate n 0 ++ replicate m 0) = ap (λ (k : ℕ). replicate {A = ℕ} k 0) split ∙ sym (replicate-append-replicate {A = ℕ} n m 0) in
    let padded : src ++ replicate 32 0 ≡ (src ++ replicate n 0) ++ replicate m 0 = ap (λ (k : List ℕ). src ++ k) zeros ∙ sym (append_assoc src (replicate n 0) (replicate m 0)) in
    let divisor : 1 ∷ low_row n ≡ generator n ++ replicate m 0 = ap (λ (g : List ℕ). g ++ replicate m 0) (one_before n) in
    let room : n + length src ≤ length (src ++ replicate n 0) = omega (arith, length-append src (replicate n 0), length-replicate {A = ℕ} n 0) in
    let whole : register ≡ check_of src n ++ replicate m 0 =
    all
    ∙ ap (λ (g : List ℕ). divided g (length src) (src ++ replicate 32 0)) divisor
    ∙ ap (divided (generator n ++ replicate m 0) (length src)) padded
    ∙ divided_padded m n (length src) (generator n) (src ++ replicate n 0) (generator_monic n) room in
    ap (take n) whole ∙ subst (λ (k : ℕ). take k (check_of src n ++ replicate m 0) ≡ check_of src n) (length_check n src) (take-append_seam (check_of src n) (replicate m 0))
