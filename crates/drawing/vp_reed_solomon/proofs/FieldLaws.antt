-- The elements of a field, and its operations.
use Rattle.std.proofs.Common.{◌≡◌, ℕ, suc, ◌+◌, ◌-◌, ◌*◌, ◌/◌, ◌%◌, ◌^◌, ◌<◌, ◌≤◌, ◌⊎◌, refl, ap, sym, ◌∙◌, inl, inr, arith, bit_xor}
use Rattle.std.specs.Int.Bits.{xor_assoc, xor_zero_r, xor_zero_l, xor_block, xor_lt}
use Rattle.std.proofs.lemmas.Bool.{cases_lt}
use Rattle.vp_reed_solomon.specs.declared.field.Field.{Field}
use Rattle.vp_reed_solomon.specs.declared.field.Field.TheVariants.{Gf16, Gf64, Gf256, Gf256Qr, Gf1024, Gf4096, Gf929}
use Rattle.vp_reed_solomon.specs.Fields.{order, degree, polynomial, sum, difference, doubled, times_bits, times}

-- sums and differences of elements are elements
pub sum_element : (field : Field) (a b : ℕ) → a < order field → b < order field → sum field a b < order field
sum_element Gf16 a b ha hb = xor_lt 4 a b ha hb
sum_element Gf64 a b ha hb = xor_lt 6 a b ha hb
sum_element Gf256 a b ha hb = xor_lt 8 a b ha hb
sum_element Gf256Qr a b ha hb = xor_lt 8 a b ha hb
sum_element Gf1024 a b ha hb = xor_lt 10 a b ha hb
sum_element Gf4096 a b ha hb = xor_lt 12 a b ha hb
sum_element Gf929 a b ha hb = omega arith

pub difference_element : (field : Field) (a b : ℕ) → a < order field → b < order field → difference field a b < order field
difference_element Gf16 a b ha hb = xor_lt 4 a b ha hb
difference_element Gf64 a b ha hb = xor_lt 6 a b ha hb
difference_element Gf256 a b ha hb = xor_lt 8 a b ha hb
difference_element Gf256Qr a b ha hb = xor_lt 8 a b ha hb
difference_element Gf1024 a b ha hb = xor_lt 10 a b ha hb
difference_element Gf4096 a b ha hb = xor_lt 12 a b ha hb
difference_element Gf929 a b ha hb = omega arith

pub ruleset elements = (sum_element, difference_element)

-- what is taken off clears the bit of the degree
cleared : (m a p : ℕ) → 2 ^ m ≤ a → a < 2 * 2 ^ m → 2 ^ m ≤ p → p < 2 * 2 ^ m → bit_xor a p < 2 ^ m
cleared m a p la ha lp hp =
    let ea : a ≡ 1 * 2 ^ m + (a - 2 ^ m) = omega arith in
    let ep : p ≡ 1 * 2 ^ m + (p - 2 ^ m) = omega arith in
    let low : bit_xor (a - 2 ^ m) (p - 2 ^ m) < 2 ^ m = xor_lt m (a - 2 ^ m) (p - 2 ^ m) (omega arith) (omega arith) in
    let e : bit_xor a p ≡ bit_xor 1 1 * 2 ^ m + bit_xor (a - 2 ^ m) (p - 2 ^ m) =
    ap (λ n. bit_xor n p) ea ∙ ap (λ n. bit_xor (1 * 2 ^ m + (a - 2 ^ m)) n) ep ∙ xor_block m 1 1 (a - 2 ^ m) (p - 2 ^ m) (omega arith) (omega arith) in
    omega arith

-- by whether the bit comes up
none : (x z p : ℕ) → z ≡ 0 → x ≡ bit_xor x (z * p)
none x z p e =
    let e2 : z * p ≡ 0 = rw e (omega arith) in
    sym (xor_zero_r x) ∙ ap (bit_xor x) (sym e2)

one : (x z p : ℕ) → z ≡ 1 → bit_xor x p ≡ bit_xor x (z * p)
one x z p e =
    let e2 : p ≡ z * p = rw e (omega arith) in
    ap (bit_xor x) e2

pub doubled_plain : (field : Field) (a : ℕ) → a < 2 ^ degree field → 2 * a < order field → 2 * a ≡ doubled field a
unfolding doubled
doubled_plain Gf16 a h lt = none (2 * a) (2 * a / 16 % 2) 19 (omega arith)
doubled_plain Gf64 a h lt = none (2 * a) (2 * a / 64 % 2) 67 (omega arith)
doubled_plain Gf256 a h lt = none (2 * a) (2 * a / 256 % 2) 301 (omega arith)
doubled_plain Gf256Qr a h lt = none (2 * a) (2 * a / 256 % 2) 285 (omega arith)
doubled_plain Gf1024 a h lt = none (2 * a) (2 * a / 1024 % 2) 1033 (omega arith)
doubled_plain Gf4096 a h lt = none (2 * a) (2 * a / 4096 % 2) 4201 (omega arith)
doubled_plain Gf929 a h lt = none (2 * a) (2 * a / 929 % 2) 0 (omega arith)

pub doubled_over : (field : Field) (a : ℕ) → a < 2 ^ degree field → order field ≤ 2 * a → bit_xor (2 * a) (polynomial field) ≡ doubled field a
unfolding doubled
doubled_over Gf16 a h le = one (2 * a) (2 * a / 16 % 2) 19 (omega arith)
doubled_over Gf64 a h le = one (2 * a) (2 * a / 64 % 2) 67 (omega arith)
doubled_over Gf256 a h le = one (2 * a) (2 * a / 256 % 2) 301 (omega arith)
doubled_over Gf256Qr a h le = one (2 * a) (2 * a / 256 % 2) 285 (omega arith)
doubled_over Gf1024 a h le = one (2 * a) (2 * a / 1024 % 2) 1033 (omega arith)
doubled_over Gf4096 a h le = one (2 * a) (2 * a / 4096 % 2) 4201 (omega arith)
doubled_over Gf929 a h le = one (2 * a) (2 * a / 929 % 2) 0 (omega arith)

pub over_element : (field : Field) (a : ℕ) → a < 2 ^ degree field → order field ≤ 2 * a → bit_xor (2 * a) (polynomial field) < 2 ^ degree field
over_element Gf16 a h le = cleared 4 (2 * a) 19 (omega arith) (omega arith) (omega arith) (omega arith)
over_element Gf64 a h le = cleared 6 (2 * a) 67 (omega arith) (omega arith) (omega arith) (omega arith)
over_element Gf256 a h le = cleared 8 (2 * a) 301 (omega arith) (omega arith) (omega arith) (omega arith)
over_element Gf256Qr a h le = cleared 8 (2 * a) 285 (omega arith) (omega arith) (omega arith) (omega arith)
over_element Gf1024 a h le = cleared 10 (2 * a) 1033 (omega arith) (omega arith) (omega arith) (omega arith)
over_element Gf4096 a h le = cleared 12 (2 * a) 4201 (omega arith) (omega arith) (omega arith) (omega arith)
over_element Gf929 a h le = absurd (omega arith)

pub plain_element : (field : Field) (a : ℕ) → a < 2 ^ degree field → 2 * a < order field → 2 * a < 2 ^ degree field
plain_element Gf16 a h lt = lt
plain_element Gf64 a h lt = lt
plain_element Gf256 a h lt = lt
plain_element Gf256Qr a h lt = lt
plain_element Gf1024 a h lt = lt
plain_element Gf4096 a h lt = lt
plain_element Gf929 a h lt = omega arith

pub ruleset doublings = (doubled_plain, doubled_over, over_element, plain_element)

-- a field of polynomials
pub sum_bits : (field : Field) (a b : ℕ) → (field ≡ Gf929 → ⊥) → bit_xor a b ≡ sum field a b
sum_bits Gf16 a b ne = refl
sum_bits Gf64 a b ne = refl
sum_bits Gf256 a b ne = refl
sum_bits Gf256Qr a b ne = refl
sum_bits Gf1024 a b ne = refl
sum_bits Gf4096 a b ne = refl
sum_bits Gf929 a b ne = absurd (ne refl)

pub difference_bits : (field : Field) (a b : ℕ) → (field ≡ Gf929 → ⊥) → bit_xor a b ≡ difference field a b
difference_bits Gf16 a b ne = refl
difference_bits Gf64 a b ne = refl
difference_bits Gf256 a b ne = refl
difference_bits Gf256Qr a b ne = refl
difference_bits Gf1024 a b ne = refl
difference_bits Gf4096 a b ne = refl
difference_bits Gf929 a b ne = absurd (ne refl)

pub order_bits : (field : Field) → (field ≡ Gf929 → ⊥) → order field ≡ 2 ^ degree field
order_bits Gf16 ne = refl
order_bits Gf64 ne = refl
order_bits Gf256 ne = refl
order_bits Gf256Qr ne = refl
order_bits Gf1024 ne = refl
order_bits Gf4096 ne = refl
order_bits Gf929 ne = absurd (ne refl)

pub times_by_bits : (field : Field) (a b : ℕ) → (field ≡ Gf929 → ⊥) → times_bits field (degree field) a b ≡ times field a b
unfolding times
times_by_bits Gf16 a b ne = refl
times_by_bits Gf64 a b ne = refl
times_by_bits Gf256 a b ne = refl
times_by_bits Gf256Qr a b ne = refl
times_by_bits Gf1024 a b ne = refl
times_by_bits Gf4096 a b ne = refl
times_by_bits Gf929 a b ne = absurd (ne refl)

-- a product by its steps
pub product_none : (field : Field) (m a b : ℕ) → bit_xor 0 (times_bits field (m - 0) a b) ≡ times_bits field m a b
product_none field m a b =
    let e : m - 0 ≡ m = omega arith in
    rw e refl

pub product_more : (field : Field) (m i total term bits : ℕ) → i < m
    → bit_xor (bit_xor total (bits % 2 * term)) (times_bits field (m - (i + 1)) (doubled field term) (bits / 2)) ≡ bit_xor total (times_bits field (m - i) term bits)
product_more field m i total term bits h =
    let e : m - i ≡ suc (m - (i + 1)) = omega arith in
    rw e (xor_assoc total (bits % 2 * term) (times_bits field (m - (i + 1)) (doubled field term) (bits / 2)))

pub product_all : (field : Field) (m i total term bits : ℕ) → m ≤ i → bit_xor total (times_bits field (m - i) term bits) ≡ total
product_all field m i total term bits h =
    let e : m - i ≡ 0 = omega arith in
    rw e (xor_zero_r total)

bit_cases : (a : ℕ) → (a % 2 ≡ 0) ⊎ (a % 2 ≡ 1)
bit_cases a = elim (cases_lt (a % 2) 1) [ inl h ↦ inl (omega arith) | inr h ↦ inr (omega arith) ]

pub bit_times : (m bits term : ℕ) → term < 2 ^ m → bits % 2 * term < 2 ^ m
bit_times m bits term h = elim (bit_cases bits) [ inl e ↦ rw e (omega arith) | inr e ↦ rw e (omega arith) ]

pub product_element : (m total bits term : ℕ) → total < 2 ^ m → term < 2 ^ m → bit_xor total (bits % 2 * term) < 2 ^ m
product_element m total bits term h k = xor_lt m total (bits % 2 * term) h (bit_times m bits term k)

pub ruleset products = (product_none, product_more, product_all, product_element)

-- sums, and differences of them
pub sum_zero : (field : Field) (a : ℕ) → a < order field → sum field a 0 ≡ a
sum_zero Gf16 a h = xor_zero_r a
sum_zero Gf64 a h = xor_zero_r a
sum_zero Gf256 a h = xor_zero_r a
sum_zero Gf256Qr a h = xor_zero_r a
sum_zero Gf1024 a h = xor_zero_r a
sum_zero Gf4096 a h = xor_zero_r a
sum_zero Gf929 a h = omega arith

pub zero_sum : (field : Field) (a : ℕ) → a < order field → sum field 0 a ≡ a
zero_sum Gf16 a h = xor_zero_l a
zero_sum Gf64 a h = xor_zero_l a
zero_sum Gf256 a h = xor_zero_l a
zero_sum Gf256Qr a h = xor_zero_l a
zero_sum Gf1024 a h = xor_zero_l a
zero_sum Gf4096 a h = xor_zero_l a
zero_sum Gf929 a h = omega arith

pub sum_difference : (field : Field) (a b c : ℕ) → difference field (sum field a b) c ≡ sum field a (difference field b c)
sum_difference Gf16 a b c = xor_assoc a b c
sum_difference Gf64 a b c = xor_assoc a b c
sum_difference Gf256 a b c = xor_assoc a b c
sum_difference Gf256Qr a b c = xor_assoc a b c
sum_difference Gf1024 a b c = xor_assoc a b c
sum_difference Gf4096 a b c = xor_assoc a b c
sum_difference Gf929 a b c = omega arith

pub difference_as_sum : (field : Field) (a c : ℕ) → difference field a c ≡ sum field a (difference field 0 c)
difference_as_sum Gf16 a c = ap (bit_xor a) (sym (xor_zero_l c))
difference_as_sum Gf64 a c = ap (bit_xor a) (sym (xor_zero_l c))
difference_as_sum Gf256 a c = ap (bit_xor a) (sym (xor_zero_l c))
difference_as_sum Gf256Qr a c = ap (bit_xor a) (sym (xor_zero_l c))
difference_as_sum Gf1024 a c = ap (bit_xor a) (sym (xor_zero_l c))
difference_as_sum Gf4096 a c = ap (bit_xor a) (sym (xor_zero_l c))
difference_as_sum Gf929 a c = omega arith

pub one_less_zero : (field : Field) → difference field 1 0 ≡ 1
one_less_zero Gf16 = refl
one_less_zero Gf64 = refl
one_less_zero Gf256 = refl
one_less_zero Gf256Qr = refl
one_less_zero Gf1024 = refl
one_less_zero Gf4096 = refl
one_less_zero Gf929 = refl

pub order_some : (field : Field) → 1 < order field
order_some Gf16 = omega arith
order_some Gf64 = omega arith
order_some Gf256 = omega arith
order_some Gf256Qr = omega arith
order_some Gf1024 = omega arith
order_some Gf4096 = omega arith
order_some Gf929 = omega arith
