-- The digits of an EAN-13 symbol.
use Rattle.std.proofs.Common.{inl, inr, ◌≡◌, ℕ, ◌+◌, ◌-◌, ◌*◌, ◌<◌, ◌≤◌, Bool, true, false, List, ◌++◌, length, get_or, take, drop, min, replicate, Ok, Err, sym, ap, ◌∙◌, arith}
use Rattle.std.specs.List.{list_all}
use Rattle.std.specs.Char.{is_ascii_digit}
use Rattle.std.proofs.lemmas.Bool.{cases_lt}
use Rattle.std.proofs.lemmas.Bool.Decides.{nat_tests}
use Rattle.std.proofs.lemmas.List.{drop_more, take_all, take-map, length-map, length-replicate, length-take-le, length-append}
use Rattle.vp_dots.specs.declared.fault.Fault.TheVariants.{Symbol}
use Rattle.vp_dots.specs.declared.fault.Why.TheVariants.{Length}
use Rattle.vp_bars.specs.declared.symbology.Symbology.TheVariants.{Ean13}
use Rattle.vp_bars.specs.Ean13.{weighted, with_check, is_count, ean13_symbol, padded, digits_of, ean13_for}

-- one more digit of the sum
pub weighted_more : (ds : List ℕ) (i sum weight : ℕ) → i < length ds → weighted 1 ds ≡ sum + weighted weight (drop i ds)
    → weighted 1 ds ≡ (sum + weight * get_or ds i 0) + weighted (4 - weight) (drop (i + 1) ds)
weighted_more ds i sum weight h e = e ∙ ap (λ xs. sum + weighted weight xs) (drop_more ds i 0 h) ∙ omega arith

pub digit_range : (c : ℕ) → is_ascii_digit c ≡ true → (48 ≤ c) × (c ≤ 57)
digit_range c e = (grind (arith, nat_tests), grind (arith, nat_tests))

-- zeros and then the first 12
padded_true : (src : List ℕ) → replicate (12 - min (length src) 12) 0 ++ digits_of (take (min (length src) 12) src) ≡ padded true (digits_of src)
padded_true src = elim (cases_lt (length src) 12) [
  | inl l ↦ (
      let n : min (length src) 12 ≡ length src = omega arith in
      let m : length (digits_of src) ≡ length src = length-map src (λ c. c - 48) in
      let k : length (replicate (12 - length (digits_of src)) 0 ++ digits_of src) ≤ 12 = omega (arith, length-append (replicate (12 - length (digits_of src)) 0) (digits_of src), length-replicate {A = ℕ} (12 - length (digits_of src)) 0) in
      ap (λ j. replicate (12 - j) 0 ++ digits_of (take j src)) n
      ∙ ap (λ xs. replicate (12 - length src) 0 ++ digits_of xs) (take_all (length src) src (omega arith))
      ∙ ap (λ j. replicate (12 - j) 0 ++ digits_of src) (sym m)
      ∙ sym (take_all 12 (replicate (12 - length (digits_of src)) 0 ++ digits_of src) k))
  | inr g ↦ (
      let n : min (length src) 12 ≡ 12 = omega arith in
      let z : 12 - length (digits_of src) ≡ 0 = omega (arith, length-map src (λ c. c - 48)) in
      ap (λ j. replicate (12 - j) 0 ++ digits_of (take j src)) n
      ∙ sym (take-map (λ c. c - 48) 12 src)
      ∙ ap (λ j. take 12 (replicate j 0 ++ digits_of src)) (sym z))
]

-- what the loops have made of the first 12
pub twelve_done : (src front items : List ℕ) (m i : ℕ) → m ≡ min (length src) 12 → front ≡ take m src → length front ≤ i
    → items ≡ replicate (12 - length front) 0 ++ digits_of (take i front) → items ≡ padded true (digits_of src)
twelve_done src front items m i e f h p = grind (arith, length-take-le, take_all, padded_true)

length-padded : (ds : List ℕ) → length (padded true ds) ≡ 12
length-padded ds = length-take-le 12 (replicate (12 - length ds) 0 ++ ds) (omega (arith, length-append (replicate (12 - length ds) 0) ds, length-replicate {A = ℕ} (12 - length ds) 0))

-- from 12 digits on, padding cuts alone
padded_long : (ds : List ℕ) → 12 ≤ length ds → padded true ds ≡ take 12 ds
padded_long ds h = let z : 12 - length ds ≡ 0 = omega arith in ap (λ j. take 12 (replicate j 0 ++ ds)) z

symbol_twelve : (ds : List ℕ) (pad : Bool) → is_count (length ds) pad ≡ true → ean13_symbol (padded pad ds) ≡ Ok (record { symbology = Ean13; values = with_check (padded true ds) })
symbol_twelve ds true e = rw (length-padded ds) (ap (λ xs. Ok (record { symbology = Ean13; values = with_check xs })) (take_all 12 (padded true ds) (omega (arith, length-padded ds))))
symbol_twelve ds false e = rw e (ap (λ xs. Ok (record { symbology = Ean13; values = with_check xs })) (sym (padded_long ds (long ds e))))
  where
    long : (ds : List ℕ) → is_count (length ds) false ≡ true → 12 ≤ length ds
    long ds e = grind (arith, nat_tests)

symbol_none : (ds : List ℕ) (pad : Bool) → is_count (length ds) pad ≡ false → ean13_symbol (padded pad ds) ≡ Err (Symbol Length)
symbol_none ds pad h1 = grind arith

module _ (src : List ℕ) (pad : Bool) (digits : list_all is_ascii_digit src ≡ true) where
  count : (b : Bool) → is_count (length src) pad ≡ b → is_count (length (digits_of src)) pad ≡ b
  count b e = rw (length-map src (λ c. c - 48)) e

  -- where the digits are padded, or 12 or 13 without, the symbol is of 12 digits
  pub ean13_twelve : is_count (length src) pad ≡ true → ean13_for src pad ≡ Ok (record { symbology = Ean13; values = with_check (padded true (digits_of src)) })
  ean13_twelve e = rw digits (symbol_twelve (digits_of src) pad (count true e))

  -- without padding other counts are refused
  pub ean13_none : is_count (length src) pad ≡ false → ean13_for src pad ≡ Err (Symbol Length)
  ean13_none e = rw digits (symbol_none (digits_of src) pad (count false e))
