-- The division as it looks from the register, and the generator as it grows.
use Rattle.std.proofs.Common.{◌≡◌, ℕ, zero, suc, ◌+◌, ◌<◌, ◌≤◌, List, [], ◌∷◌, ◌++◌, length, replicate, map, drop, get_or, refl, sym, ap, ◌∙◌, arith, length-append, add-one}
use Rattle.std.proofs.lemmas.List.{length-replicate, drop_more, drop_all, ext_get_or, get_or_append_left}
use Rattle.vp_reed_solomon.specs.declared.field.Field.{Field}
use Rattle.vp_reed_solomon.specs.Fields.{order, sum, difference, times, power, primitive}
use Rattle.vp_reed_solomon.specs.Polynomials.{minus, scaled, generator, divided, check_of}
use Rattle.vp_reed_solomon.proofs.FieldLaws.{sum_zero, zero_sum, sum_difference, difference_as_sum, one_less_zero}

-- the sum term by term, beginning with the highest of each
abbrev pub plus : Field → List ℕ → List ℕ → List ℕ
plus field [] ys = ys
plus field (x ∷ xs) [] = x ∷ xs
plus field (x ∷ xs) (y ∷ ys) = sum field x y ∷ plus field xs ys

pub plus_nothing : (field : Field) (xs : List ℕ) → plus field xs [] ≡ xs
plus_nothing field [] = refl
plus_nothing field (x ∷ xs) = refl

pub plus_zeros : (field : Field) (n : ℕ) (xs : List ℕ) → n ≤ length xs → ((k : ℕ) → get_or xs k 0 < order field) → plus field xs (replicate n 0) ≡ xs
plus_zeros field zero xs h e = plus_nothing field xs
plus_zeros field (suc n) [] h e = absurd (omega arith)
plus_zeros field (suc n) (x ∷ xs) h e =
    ap (λ (k : ℕ). k ∷ plus field xs (replicate n 0)) (sum_zero field x (e 0)) ∙ ap (λ (k : List ℕ). x ∷ k) (plus_zeros field n xs (omega arith) (λ (k : ℕ). e (suc k)))

pub zeros_plus : (field : Field) (n : ℕ) (xs : List ℕ) → length xs ≡ n → ((k : ℕ) → get_or xs k 0 < order field) → plus field (replicate n 0) xs ≡ xs
zeros_plus field zero xs h e = refl
zeros_plus field (suc n) [] h e = absurd (omega arith)
zeros_plus field (suc n) (x ∷ xs) h e =
    ap (λ (k : ℕ). k ∷ plus field (replicate n 0) xs) (zero_sum field x (e 0)) ∙ ap (λ (k : List ℕ). x ∷ k) (zeros_plus field n xs (omega arith) (λ (k : ℕ). e (suc k)))

pub minus_plus : (field : Field) (xs ys zs : List ℕ) → length ys ≤ length zs → length zs ≤ length xs → minus field (plus field xs ys) zs ≡ plus field xs (minus field ys zs)
minus_plus field [] [] [] h k = refl
minus_plus field [] [] (z ∷ zs) h k = absurd (omega arith)
minus_plus field [] (y ∷ ys) zs h k = absurd (omega arith)
minus_plus field (x ∷ xs) [] [] h k = refl
minus_plus field (x ∷ xs) [] (z ∷ zs) h k =
    ap (λ (m : ℕ). m ∷ minus field xs zs) (difference_as_sum field x z)
    ∙ ap (λ (l : List ℕ). sum field x (difference field 0 z) ∷ l) (ap (λ (l : List ℕ). minus field l zs) (sym (plus_nothing field xs)) ∙ minus_plus field xs [] zs (omega arith) (omega arith))
minus_plus field (x ∷ xs) (y ∷ ys) [] h k = absurd (omega arith)
minus_plus field (x ∷ xs) (y ∷ ys) (z ∷ zs) h k =
    ap (λ (m : ℕ). m ∷ minus field (plus field xs ys) zs) (sum_difference field x y z)
    ∙ ap (λ (l : List ℕ). sum field x (difference field y z) ∷ l) (minus_plus field xs ys zs (omega arith) (omega arith))

-- term by term
pub length_scaled : (field : Field) (c : ℕ) (xs : List ℕ) → length (scaled field c xs) ≡ length xs
length_scaled field c [] = refl
length_scaled field c (x ∷ xs) = ap suc (length_scaled field c xs)

pub length_negated : (field : Field) (xs : List ℕ) → length (map (difference field 0) xs) ≡ length xs
length_negated field [] = refl
length_negated field (x ∷ xs) = ap suc (length_negated field xs)

pub length_minus : (field : Field) (xs ys : List ℕ) → length xs ≤ length ys → length (minus field xs ys) ≡ length ys
length_minus field [] ys h = length_negated field ys
length_minus field (x ∷ xs) [] h = absurd (omega arith)
length_minus field (x ∷ xs) (y ∷ ys) h = ap suc (length_minus field xs ys (omega arith))

pub get_or-scaled : (field : Field) (c : ℕ) (xs : List ℕ) (k : ℕ) → k < length xs → get_or (scaled field c xs) k 0 ≡ times field c (get_or xs k 0)
get_or-scaled field c [] k h = absurd (omega arith)
get_or-scaled field c (x ∷ xs) zero h = refl
get_or-scaled field c (x ∷ xs) (suc k) h = get_or-scaled field c xs k (omega arith)

pub get_or-negated : (field : Field) (xs : List ℕ) (k : ℕ) → k < length xs → get_or (map (difference field 0) xs) k 0 ≡ difference field 0 (get_or xs k 0)
get_or-negated field [] k h = absurd (omega arith)
get_or-negated field (x ∷ xs) zero h = refl
get_or-negated field (x ∷ xs) (suc k) h = get_or-negated field xs k (omega arith)

pub get_or-minus : (field : Field) (xs ys : List ℕ) (k : ℕ) → k < length ys → get_or (minus field xs ys) k 0 ≡ difference field (get_or xs k 0) (get_or ys k 0)
get_or-minus field [] ys k h = get_or-negated field ys k h
get_or-minus field (x ∷ xs) [] k h = absurd (omega arith)
get_or-minus field (x ∷ xs) (y ∷ ys) zero h = refl
get_or-minus field (x ∷ xs) (y ∷ ys) (suc k) h = get_or-minus field xs ys k (omega arith)

-- what the register r of n elements has, while the codewords b are still to come
pub record Registers (field : Field) (low src : List ℕ) (n : ℕ) (b r : List ℕ) : Type 0 where
  pub same : divided field (1 ∷ low) (length b) (plus field (b ++ replicate n 0) r) ≡ divided field (1 ∷ low) (length src) (src ++ replicate n 0)
  pub size : length r ≡ n

registers_step : (field : Field) (low src : List ℕ) (n x r : ℕ) (b rs : List ℕ) → length low ≡ n
    → Registers field low src n (x ∷ b) (r ∷ rs) → Registers field low src n b (minus field rs (scaled field (sum field x r) low))
unfolding divided
registers_step field low src n x r b rs len h = record {
  same = ap (divided field (1 ∷ low) (length b)) (sym (minus_plus field (b ++ replicate n 0) rs (scaled field (sum field x r) low)
      (omega (arith, h.size, length_scaled field (sum field x r) low)) (omega (arith, length_scaled field (sum field x r) low, length-append b (replicate {A = ℕ} n 0), length-replicate {A = ℕ} n 0)))) ∙ h.same;
  size = length_minus field rs (scaled field (sum field x r) low) (omega (arith, h.size, length_scaled field (sum field x r) low)) ∙ length_scaled field (sum field x r) low ∙ len;
}

pub elements_zeros : (field : Field) (n k : ℕ) → 0 < order field → get_or (replicate n 0) k 0 < order field
elements_zeros field zero k h = h
elements_zeros field (suc n) zero h = h
elements_zeros field (suc n) (suc k) h = elements_zeros field n k h

elements_append : (field : Field) (xs ys : List ℕ) → ((k : ℕ) → get_or xs k 0 < order field) → ((k : ℕ) → get_or ys k 0 < order field) → (k : ℕ) → get_or (xs ++ ys) k 0 < order field
elements_append field [] ys h e k = e k
elements_append field (x ∷ xs) ys h e zero = h 0
elements_append field (x ∷ xs) ys h e (suc k) = elements_append field xs ys (λ (j : ℕ). h (suc j)) e k

pub registers_none : (field : Field) (low src : List ℕ) (n : ℕ) → 0 < order field → ((k : ℕ) → get_or src k 0 < order field) → Registers field low src n src (replicate n 0)
registers_none field low src n some h = record {
  same = ap (divided field (1 ∷ low) (length src)) (plus_zeros field n (src ++ replicate n 0) (omega (arith, length-append src (replicate {A = ℕ} n 0), length-replicate {A = ℕ} n 0))
      (elements_append field src (replicate n 0) h (λ (k : ℕ). elements_zeros field n k some)));
  size = length-replicate {A = ℕ} n 0;
}

pub registers_more : (field : Field) (low src : List ℕ) (n i : ℕ) (register new : List ℕ) → length low ≡ n → 0 < n → i < length src → length new ≡ n
    → Registers field low src n (drop i src) register
    → ((k : ℕ) → k < length register → get_or new k 0 ≡ difference field (get_or register (k + 1) 0) (times field (sum field (get_or src i 0) (get_or register 0 0)) (get_or low k 0)))
    → Registers field low src n (drop (i + 1) src) new
registers_more field low src n i [] new len pos h size r terms = absurd (omega (arith, r.size))
registers_more field low src n i (x ∷ xs) new len pos h size r terms =
    let e : ℕ = sum field (get_or src i 0) x in
    let whole : List ℕ = minus field xs (scaled field e low) in
    let long : length whole ≡ n = length_minus field xs (scaled field e low) (omega (arith, r.size, length_scaled field e low)) ∙ length_scaled field e low ∙ len in
    let same : new ≡ whole = ext_get_or 0 new whole (size ∙ sym long) (λ (k : ℕ) (lt : k < length new).
    terms k (omega (arith, r.size)) ∙ ap (λ (j : ℕ). difference field (get_or (x ∷ xs) j 0) (times field e (get_or low k 0))) (add-one k)
    ∙ ap (difference field (get_or xs k 0)) (sym (get_or-scaled field e low k (omega arith))) ∙ sym (get_or-minus field xs (scaled field e low) k (omega (arith, length_scaled field e low)))) in
    rw same (registers_step field low src n (get_or src i 0) x (drop (i + 1) src) xs len (rw (drop_more src i 0 h) at r))

pub registers_all : (field : Field) (low src : List ℕ) (n i : ℕ) (r new : List ℕ) → length src ≤ i → Registers field low src n (drop i src) r
    → ((k : ℕ) → get_or r k 0 < order field) → length new ≡ length r → ((k : ℕ) → k < length r → get_or new k 0 ≡ difference field 0 (get_or r k 0))
    → new ≡ check_of field (1 ∷ low) n src
unfolding check_of divided
registers_all field low src n i r new done h e size terms =
    let last : Registers field low src n [] r = rw (drop_all i src done) at h in
    let left : r ≡ divided field (1 ∷ low) (length src) (src ++ replicate n 0) = sym (zeros_plus field n r last.size e) ∙ last.same in
    ext_get_or 0 new (map (difference field 0) r) (size ∙ sym (length_negated field r))
    (λ (k : ℕ) (lt : k < length new). terms k (omega arith) ∙ sym (get_or-negated field r k (omega arith)))
    ∙ ap (map (difference field 0)) left

-- one root more
generator_next : (field : Field) (first n : ℕ) (low : List ℕ) → 1 ∷ low ≡ generator field first n
    → generator field first (n + 1) ≡ 1 ∷ minus field (low ++ 0 ∷ []) (scaled field (power field (first + n)) (1 ∷ low))
unfolding generator
generator_next field first n low is =
    rw add-one (rw (← is) (ap (λ (k : ℕ). k ∷ minus field (low ++ 0 ∷ []) (scaled field (power field (first + n)) (1 ∷ low))) (one_less_zero field)))

pub generator_none : (field : Field) (first : ℕ) → 1 ∷ [] ≡ generator field first 0
unfolding generator
generator_none field first = refl

pub power_none : (field : Field) → 1 ≡ power field 0
unfolding power
power_none field = refl

pub power_more : (field : Field) (k root : ℕ) → root ≡ power field k → times field (primitive field) root ≡ power field (k + 1)
unfolding power
power_more field k root e = rw add-one (ap (times field (primitive field)) e)

get_or-front : (low : List ℕ) (k : ℕ) → k < length low + 1 → get_or (1 ∷ (low ++ 0 ∷ [])) k 0 ≡ get_or (1 ∷ low) k 0
get_or-front low zero h = refl
get_or-front [] (suc k) h = absurd (omega arith)
get_or-front (x ∷ low) (suc zero) h = refl
get_or-front (x ∷ low) (suc (suc k)) h = get_or_append_left low (0 ∷ []) 0 k (omega arith)

pub generator_more : (field : Field) (first n root : ℕ) (low old new : List ℕ) → 1 ∷ low ≡ generator field first n → root ≡ power field (first + n)
    → old ≡ low ++ 0 ∷ [] → length new ≡ length old
    → ((k : ℕ) → k < length old → get_or new k 0 ≡ difference field (get_or old k 0) (times field root (get_or (1 ∷ old) k 0)))
    → 1 ∷ new ≡ generator field first (n + 1)
generator_more field first n root low old new is at e size terms =
    let multiple : List ℕ = scaled field root (1 ∷ low) in
    let long : length (low ++ 0 ∷ []) ≡ length low + 1 = omega (arith, length-append low (0 ∷ [])) in
    let same : new ≡ minus field (low ++ 0 ∷ []) multiple = ext_get_or 0 new (minus field (low ++ 0 ∷ []) multiple)
    (omega (arith, ap length e, length_minus field (low ++ 0 ∷ []) multiple, length_scaled field root (1 ∷ low)))
    (λ (k : ℕ) (lt : k < length new).
    terms k (omega arith) ∙ ap (λ (l : List ℕ). difference field (get_or l k 0) (times field root (get_or (1 ∷ l) k 0))) e
    ∙ ap (λ (m : ℕ). difference field (get_or (low ++ 0 ∷ []) k 0) (times field root m)) (get_or-front low k (omega (arith, ap length e)))
    ∙ ap (difference field (get_or (low ++ 0 ∷ []) k 0)) (sym (get_or-scaled field root (1 ∷ low) k (omega (arith, ap length e))))
    ∙ sym (get_or-minus field (low ++ 0 ∷ []) multiple k (omega (arith, ap length e, length_scaled field root (1 ∷ low))))) in
    ap (λ (l : List ℕ). 1 ∷ l) same ∙ ap (λ (r : ℕ). 1 ∷ minus field (low ++ 0 ∷ []) (scaled field r (1 ∷ low))) at ∙ sym (generator_next field first n low is)
