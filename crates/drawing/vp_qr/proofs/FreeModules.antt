-- Where no data stands, and rows that are made bit by bit.
use Rattle.std.proofs.Common.{◌≡◌, ℕ, zero, suc, ◌+◌, ◌-◌, ◌*◌, ◌^◌, ◌%◌, ◌<◌, ◌&&◌, ◌||◌, not, Bool, true, false, eqb, ltb, leb, List, length, replicate, get_or, set, get_or-set_same, get_or-set_other, cond, refl, sym, ap, ◌∙◌, arith, bit_or, w64}
use Rattle.std.specs.Int.{bit_at}
use Rattle.std.proofs.lemmas.Bool.{and_parts, lt-ltb, le-ltb}
use Rattle.std.proofs.lemmas.Bool.Decides.{nat_tests}
use Rattle.std.proofs.lemmas.Nat.Bits.{bit_at_set_same, bit_at_set_other, bit_at-zero}
use Rattle.vp_qr.specs.Places.{size, corner, reserved}
use Rattle.vp_qr.specs.Symbol.{finder, format_bit, module_at, differ, formula, format_here, pattern_dark}
use Rattle.vp_qr.specs.Walk.{dark}
use Rattle.vp_qr.specs.Penalty.{is_set, same}

small : (i : ℕ) → ltb i 9 ≡ false → ltb i 8 ≡ false
small i h = grind arith

-- what is in neither part of a wider shape is in neither part of a narrower one
narrower : (a b wide_a wide_b c d : Bool) → (wide_a ≡ false → a ≡ false) → (wide_b ≡ false → b ≡ false)
    → ((wide_a && (wide_b || c)) || (d && wide_b)) ≡ false → ((a && (b || c)) || (d && b)) ≡ false
narrower a b wide_a wide_b c d ha hb h = grind arith

pub finder_corner : (s i j : ℕ) → corner s i j ≡ false → finder s i j ≡ false
finder_corner s i j h = narrower (ltb i 8) (ltb j 8) (ltb i 9) (ltb j 9) (leb (s - 8) j) (leb (s - 8) i) (small i) (small j) h

pub dark_corner : (s i j : ℕ) → corner s i j ≡ false → (eqb i (s - 8) && eqb j 8) ≡ false
dark_corner s i j h = grind arith
  where
    clash : (a b c : Bool) → b ≡ true → c ≡ true → (a || (b && c)) ≡ false → ⊥
    clash true b c hb hc h = cc
    clash false true true hb hc h = cc
    clash false true false hb hc h = cc
    clash false false c hb hc h = cc

differ_is : (a b : Bool) → differ a b ≡ not (same a b)
differ_is a b = grind arith

clash : {A : Type 0} → true ≡ false → A
clash e = cc

-- what is tested first holds: data on a module that isn't reserved, a pattern, or a bit of the format
combined : (fi r c al ve dk co : Bool) (p q t a v b x y z : Bool) → (co ≡ false → fi ≡ false) → (co ≡ false → dk ≡ false) → z ≡ false
    → cond fi p (cond r q (cond c t (cond al a (cond ve v (cond dk true (cond co b x))))))
    ≡ ((not (co || r || c || al || ve) && x) || ((co || r || c || al || ve) && cond fi p (cond r q (cond c t (cond al a (cond ve v (cond dk true (cond co z y))))))) || ((co && not (fi || r || c || al || ve || dk)) && b))
combined fi r c al ve dk co p q t a v b x y z h k e = grind arith

-- a module of a row: the data under the mask, the patterns, and the bits of the format
pub line_module : (v format code m i j : ℕ) (f : ℕ → ℕ → Bool)
    → ((not (same (f i j) (eqb (formula m i j) 0)) && not (reserved v i j)) || pattern_dark v code i j || (format_here v i j && eqb (bit_at format (format_bit (size v) i j)) 1))
    ≡ module_at v format code m f i j
unfolding module_at reserved pattern_dark format_here
line_module v format code m i j f = grind (arith, nat_tests, turned, differ_is, combined, finder_corner, dark_corner, bit_at-zero)
  where
    turned : (a b : Bool) → (a && b) ≡ (b && a)
    turned true true = refl
    turned true false = refl
    turned false true = refl
    turned false false = refl

-- the format stands beside the finders
pub format_corner : (v i j : ℕ) → format_here v i j ≡ true → corner (size v) i j ≡ true
unfolding format_here
format_corner v i j h = (and_parts _ _ h).0

format_column : (v i j : ℕ) → (i ≡ 8 → ⊥) → format_here v i j ≡ true → j ≡ 8
unfolding format_here
format_column v i j ne h = grind (arith, nat_tests)

pub only_column : (v i j : ℕ) (f : ℕ → Bool) (b : Bool) → (i ≡ 8 → ⊥) → b ≡ (format_here v i 8 && f 8) → (b && format_here v i j) ≡ (format_here v i j && f j)
only_column v i j f b ne e = grind (arith, format_column)

-- the bits of a row below a column
pub record Made (f : ℕ → Bool) (line column : ℕ) : Type 0 where
  pub bits_are : (j : ℕ) → j < 64 → is_set line j ≡ (ltb j column && f j)

pub made_none : (f : ℕ → Bool) → Made f 0 0
made_none f = record { bits_are = λ j h. ap (λ n. eqb n 1) (bit_at-zero j) ∙ sym (ap (λ b. b && f j) (le-ltb j 0 (omega arith))) }

pub made_dark : (f : ℕ → Bool) (line column : ℕ) → column < 64 → f column ≡ true → Made f line column → Made f (bit_or line (1 * 2 ^ column % 2 ^ 64)) (column + 1)
made_dark f line column lt d h = grind (arith, bit_at_set_same w64 line column lt, bit_at_set_other w64 line column lt)

pub made_all : (f : ℕ → Bool) (line column : ℕ) → Made f line column → (j : ℕ) → j < column → j < 64 → is_set line j ≡ f j
made_all f line column h j lt hj = h.bits_are j hj ∙ ap (λ b. b && f j) (lt-ltb j column lt)

-- one row more
pub row_made : (f : ℕ → ℕ → Bool) (rows : List ℕ) (row line s : ℕ) → row < length rows → ((j : ℕ) → j < s → is_set line j ≡ f row j)
    → ((i j : ℕ) → i < row → j < s → dark rows i j ≡ f i j) → (i j : ℕ) → i < row + 1 → j < s → dark (set rows row line) i j ≡ f i j
unfolding dark
row_made f rows row line s lt here before i j hi hj = grind (arith, get_or-set_other, get_or-set_same)

-- no module of empty rows is dark
pub zero_row : (n i : ℕ) → ◌≡◌ {A = ℕ} (get_or (replicate n 0) i 0) 0
zero_row zero i = refl
zero_row (suc n) zero = refl
zero_row (suc n) (suc i) = zero_row n i

pub none_dark : (i j : ℕ) → dark (replicate 57 0) i j ≡ false
unfolding dark
none_dark i j = ap (λ (n : ℕ). eqb (bit_at n j) 1) (zero_row 57 i) ∙ ap (λ (n : ℕ). eqb n 1) (bit_at-zero j)
