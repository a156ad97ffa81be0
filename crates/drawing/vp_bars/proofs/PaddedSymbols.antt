-- The symbol of data that are padded is that of the padded digits.
use Rattle.std.proofs.Common.{◌≡◌, ℕ, zero, suc, ◌-◌, ◌≤◌, true, false, List, [], ◌∷◌, ◌++◌, length, take, replicate, refl, sym, ap, ◌∙◌, arith, Option, Some, None, Result, Ok}
use Rattle.std.proofs.lemmas.Bool.{le-ltb}
use Rattle.std.proofs.lemmas.Bool.Decides.{nat_tests}
use Rattle.std.proofs.lemmas.List.{length-append, length-replicate, length-take-le}
use Rattle.vp_dots.specs.declared.fault.Fault.{Fault}
use Rattle.vp_bars.specs.Symbols.{Linear, within_length}
use Rattle.vp_bars.specs.Code39.{with_value}
use Rattle.vp_bars.specs.Signs.{digits, value_among, values_among}
use Rattle.vp_bars.specs.Upc.{padded}
use Rattle.vp_bars.specs.Ean8.{ean8_symbol, ean8_of}
use Rattle.vp_bars.specs.UpcA.{upca_symbol, upca_of}
use Rattle.vp_bars.specs.AddOn.{add_on_count, add_on_digits, add_on_symbol, add_on_of}
use Rattle.vp_bars.specs.Laws.{filled}
use Rattle.vp_bars.proofs.PlainTexts.{within_ok}

-- some bytes, and not too many
pub within_some : (src : List ℕ) (r : Result Linear Fault) → 1 ≤ length src → length src ≤ 255 → within_length src r ≡ r
within_some [] r h k = absurd (omega arith)
within_some (b ∷ src) r h k = rw (le-ltb 255 (length (b ∷ src)) k) refl

-- the values of signs one by one
module _ (alphabet : List ℕ) where
  front_of : (n c : ℕ) (cs vs : List ℕ) (o : Option ℕ) (r : Option (List ℕ)) → ((ws : List ℕ) → r ≡ Some ws → values_among alphabet (take n cs) ≡ Some (take n ws))
      → value_among alphabet c ≡ o → with_value o r ≡ Some vs → values_among alphabet (take (suc n) (c ∷ cs)) ≡ Some (take (suc n) vs)
  front_of n c cs vs None r h a e = cc
  front_of n c cs vs (Some v) None h a e = cc
  front_of n c cs vs (Some v) (Some ws) h a e =
      let same : v ∷ ws ≡ vs = cc in
      rw (a, h ws refl) (ap (λ us. Some (take (suc n) us)) same)

  -- those of the first signs
  pub values_taken : (n : ℕ) (cs vs : List ℕ) → values_among alphabet cs ≡ Some vs → values_among alphabet (take n cs) ≡ Some (take n vs)
  values_taken zero cs vs e = refl
  values_taken (suc n) [] [] e = refl
  values_taken (suc n) [] (v ∷ vs) e = cc
  values_taken (suc n) (c ∷ cs) vs e = front_of n c cs vs (value_among alphabet c) (values_among alphabet cs) (λ ws f. values_taken n cs ws f) refl e

  one_more : (c : ℕ) (cs vs : List ℕ) (o : Option ℕ) (r : Option (List ℕ)) → ((ws : List ℕ) → r ≡ Some ws → length ws ≡ length cs) → with_value o r ≡ Some vs
      → length vs ≡ length (c ∷ cs)
  one_more c cs vs None r h e = cc
  one_more c cs vs (Some v) None h e = cc
  one_more c cs vs (Some v) (Some ws) h e = let same : v ∷ ws ≡ vs = cc in let n : length vs ≡ length (v ∷ ws) = ap length (sym same) in omega (arith, h ws refl)

  pub values_counted : (cs vs : List ℕ) → values_among alphabet cs ≡ Some vs → length vs ≡ length cs
  values_counted [] [] e = refl
  values_counted [] (v ∷ vs) e = cc
  values_counted (c ∷ cs) vs e = one_more c cs vs (value_among alphabet c) (values_among alphabet cs) (λ ws f. values_counted cs ws f) e

behind_zeros : (k : ℕ) (src ds : List ℕ) → values_among digits src ≡ Some ds → values_among digits (replicate k 48 ++ src) ≡ Some (replicate k 0 ++ ds)
behind_zeros zero src ds e = e
behind_zeros (suc k) src ds e = ap (with_value (Some 0)) (behind_zeros k src ds e)

pub filled_values : (count : ℕ) (src ds : List ℕ) → values_among digits src ≡ Some ds → values_among digits (filled count src) ≡ Some (padded true count ds)
filled_values count src ds e =
    values_taken digits count (replicate (count - length src) 48 ++ src) (replicate (count - length src) 0 ++ ds) (behind_zeros (count - length src) src ds e)
    ∙ ap (λ n. Some (take count (replicate (count - n) 0 ++ ds))) (sym (values_counted digits src ds e))

pub filled_count : (count : ℕ) (src : List ℕ) → length (filled count src) ≡ count
filled_count count src = length-take-le count (replicate (count - length src) 48 ++ src)
    (omega (arith, length-append (replicate (count - length src) 48) src, length-replicate {A = ℕ} (count - length src) 48))

filled_within : (count : ℕ) (src : List ℕ) (r : Result Linear Fault) → 1 ≤ count → count ≤ 255 → within_length (filled count src) r ≡ r
filled_within count src r h k = within_some (filled count src) r (omega (arith, filled_count count src)) (omega (arith, filled_count count src))

count_fits : (n : ℕ) → (1 ≤ add_on_count n) × (add_on_count n ≤ 255)
count_fits n = (grind (arith, nat_tests), grind (arith, nat_tests))

module _ (src : List ℕ) (bars : Linear) where
  ean8_by : (o : Option (List ℕ)) → values_among digits src ≡ o → ean8_symbol true o ≡ Ok bars → ean8_of (filled 7 src) false ≡ Ok bars
  ean8_by None a e = cc
  ean8_by (Some ds) a e = filled_within 7 src (ean8_symbol false (values_among digits (filled 7 src))) (omega arith) (omega arith) ∙ ap (ean8_symbol false) (filled_values 7 src ds a) ∙ e

  pub ean8_padded : ean8_of src true ≡ Ok bars → ean8_of (filled 7 src) false ≡ Ok bars
  ean8_padded e = ean8_by (values_among digits src) refl (within_ok src (ean8_symbol true (values_among digits src)) bars e)

  upca_by : (o : Option (List ℕ)) → values_among digits src ≡ o → upca_symbol true o ≡ Ok bars → upca_of (filled 11 src) false ≡ Ok bars
  upca_by None a e = cc
  upca_by (Some ds) a e = filled_within 11 src (upca_symbol false (values_among digits (filled 11 src))) (omega arith) (omega arith) ∙ ap (upca_symbol false) (filled_values 11 src ds a) ∙ e

  pub upca_padded : upca_of src true ≡ Ok bars → upca_of (filled 11 src) false ≡ Ok bars
  upca_padded e = upca_by (values_among digits src) refl (within_ok src (upca_symbol true (values_among digits src)) bars e)

  add_on_by : (o : Option (List ℕ)) → values_among digits src ≡ o → add_on_symbol true o ≡ Ok bars
      → add_on_of (filled (add_on_count (length src)) src) false ≡ Ok bars
  add_on_by None a e = cc
  add_on_by (Some ds) a e =
      let n = add_on_count (length src) in
      filled_within n src (add_on_symbol false (values_among digits (filled n src))) (count_fits (length src)).0 (count_fits (length src)).1
      ∙ ap (add_on_symbol false) (filled_values n src ds a)
      ∙ ap (λ k. add_on_digits (padded true (add_on_count k) ds)) (sym (values_counted digits src ds a))
      ∙ e

  pub add_on_padded : add_on_of src true ≡ Ok bars → add_on_of (filled (add_on_count (length src)) src) false ≡ Ok bars
  add_on_padded e = add_on_by (values_among digits src) refl (within_ok src (add_on_symbol true (values_among digits src)) bars e)
