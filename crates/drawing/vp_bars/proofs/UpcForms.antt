-- The short forms of UPC-A, and the data that name them.
use Rattle.std.proofs.Common.{◌≡◌, ℕ, ◌+◌, ◌*◌, ◌<◌, ◌≤◌, Bool, true, false, cond, eqb, ltb, leb, ◌&&◌, List, [], ◌∷◌, length, take, drop, get_or, refl, sym, ap, ◌∙◌, arith, Option, Some, None, Ok}
use Rattle.std.specs.Option.{is_some}
use Rattle.std.proofs.lemmas.Bool.Decides.{nat_tests}
use Rattle.std.proofs.lemmas.List.{length-take-le, length-drop}
use Rattle.vp_bar_code.specs.declared.UpcEData.TheVariants.{Digits}
use Rattle.vp_bars.specs.Symbols.{Linear}
use Rattle.vp_bars.specs.Code39.{with_value}
use Rattle.vp_bars.specs.Signs.{digits, value_among, values_among}
use Rattle.vp_bars.specs.Upc.{is_count}
use Rattle.vp_bars.specs.UpcE.{long_form, short_form, upce_short, six_of_digits, upce_symbol, upce_of}
use Rattle.vp_bars.specs.Laws.{has_article}
use Rattle.vp_bars.proofs.PlainTexts.{within_ok}
use Rattle.vp_bars.proofs.PaddedSymbols.{within_some, values_taken, values_counted}

some_same : {x y : List ℕ} → Some x ≡ Some y → x ≡ y
some_same h = cc

module _ (a b c d e f g h i j k : ℕ) where
  abbrev eleven : List ℕ
  eleven = a ∷ b ∷ c ∷ d ∷ e ∷ f ∷ g ∷ h ∷ i ∷ j ∷ k ∷ []

  -- where the zeros are, and what is left out there
  module _ (system : leb 1 a ≡ false) where
    by_first : (ltb d 3 && (eqb e 0 && (eqb f 0 && (eqb g 0 && (eqb h 0 && true))))) ≡ true → long_form (b ∷ c ∷ i ∷ j ∷ k ∷ d ∷ []) ≡ eleven
    by_first h1 = grind (arith, nat_tests)

    by_second : (eqb e 0 && (eqb f 0 && (eqb g 0 && (eqb h 0 && (eqb i 0 && true))))) ≡ true → long_form (b ∷ c ∷ d ∷ j ∷ k ∷ 3 ∷ []) ≡ eleven
    by_second h1 = grind (arith, nat_tests)

    by_third : (eqb f 0 && (eqb g 0 && (eqb h 0 && (eqb i 0 && (eqb j 0 && true))))) ≡ true → long_form (b ∷ c ∷ d ∷ e ∷ k ∷ 4 ∷ []) ≡ eleven
    by_third h1 = grind (arith, nat_tests)

    by_fourth : (leb 5 k && (eqb g 0 && (eqb h 0 && (eqb i 0 && (eqb j 0 && true))))) ≡ true → long_form (b ∷ c ∷ d ∷ e ∷ f ∷ k ∷ []) ≡ eleven
    by_fourth h1 = grind (arith, nat_tests)

  stands_by : (six : List ℕ) (p q r s t : Bool) → leb 1 a ≡ p → (ltb d 3 && (eqb e 0 && (eqb f 0 && (eqb g 0 && (eqb h 0 && true))))) ≡ q
      → (eqb e 0 && (eqb f 0 && (eqb g 0 && (eqb h 0 && (eqb i 0 && true))))) ≡ r
      → (eqb f 0 && (eqb g 0 && (eqb h 0 && (eqb i 0 && (eqb j 0 && true))))) ≡ s
      → (leb 5 k && (eqb g 0 && (eqb h 0 && (eqb i 0 && (eqb j 0 && true))))) ≡ t
      → short_form eleven ≡ Some six → long_form six ≡ eleven
  stands_by six true q r s t u v w x y z = let none : None ≡ Some six = rw u at z in cc
  stands_by six false true r s t u v w x y z =
      let some : Some (b ∷ c ∷ i ∷ j ∷ k ∷ d ∷ []) ≡ Some six = rw (u, v) at z in ap long_form (sym (some_same some)) ∙ by_first u v
  stands_by six false false true s t u v w x y z =
      let some : Some (b ∷ c ∷ d ∷ j ∷ k ∷ 3 ∷ []) ≡ Some six = rw (u, v, w) at z in ap long_form (sym (some_same some)) ∙ by_second u w
  stands_by six false false false true t u v w x y z =
      let some : Some (b ∷ c ∷ d ∷ e ∷ k ∷ 4 ∷ []) ≡ Some six = rw (u, v, w, x) at z in ap long_form (sym (some_same some)) ∙ by_third u x
  stands_by six false false false false true u v w x y z =
      let some : Some (b ∷ c ∷ d ∷ e ∷ f ∷ k ∷ []) ≡ Some six = rw (u, v, w, x, y) at z in ap long_form (sym (some_same some)) ∙ by_fourth u y
  stands_by six false false false false false u v w x y z = let none : None ≡ Some six = rw (u, v, w, x, y) at z in cc

  -- six digits stand for the eleven whose short form they are
  pub short_stands : (six : List ℕ) → short_form eleven ≡ Some six → long_form six ≡ eleven
  short_stands six h1 = stands_by six _ _ _ _ _ refl refl refl refl refl h1

-- whether there is a short form, by the digits that are zeros
by_zeros : (c d e f g h i j : Bool) (k l m n : List ℕ) → is_some (cond (c && (d && (e && (f && (g && true))))) (Some k)
    (cond (d && (e && (f && (g && (h && true))))) (Some l) (cond (e && (f && (g && (h && (i && true))))) (Some m)
    (cond (j && (f && (g && (h && (i && true))))) (Some n) None))))
    ≡ cond (d && e) (cond c (f && (g && true)) (f && (g && (h && true))))
    (cond e (f && (g && (h && (i && true)))) (j && (f && (g && (h && (i && true))))))
by_zeros c d e f g h i j k l m n = grind arith

-- an article's number by the zeros it begins with
module _ (f g h i j : ℕ) (f_fits : f < 10) (g_fits : g < 10) (h_fits : h < 10) (i_fits : i < 10) (j_fits : j < 10) where
  abbrev article : ℕ
  article = 10000 * f + 1000 * g + 100 * h + 10 * i + j

  below_thousand : leb article 999 ≡ (eqb f 0 && (eqb g 0 && true))
  below_thousand = grind (arith, nat_tests)

  below_hundred : leb article 99 ≡ (eqb f 0 && (eqb g 0 && (eqb h 0 && true)))
  below_hundred = grind (arith, nat_tests)

  below_ten : leb article 9 ≡ (eqb f 0 && (eqb g 0 && (eqb h 0 && (eqb i 0 && true))))
  below_ten = grind (arith, nat_tests)

  from_five : (leb 5 article && leb article 9) ≡ (leb 5 j && (eqb f 0 && (eqb g 0 && (eqb h 0 && (eqb i 0 && true)))))
  from_five = grind (arith, nat_tests)

  -- the articles that have a short form, by their maker's number
  pub articles_shortened : (a b c d e : ℕ) → is_some (short_form (0 ∷ a ∷ b ∷ c ∷ d ∷ e ∷ f ∷ g ∷ h ∷ i ∷ j ∷ [])) ≡ has_article c d e article
  articles_shortened a b c d e = rw (below_thousand, below_hundred, from_five, below_ten)
      (by_zeros (ltb c 3) (eqb d 0) (eqb e 0) (eqb f 0) (eqb g 0) (eqb h 0) (eqb i 0) (leb 5 j) _ _ _ _)

-- behind the number system
behind_value : (o : Option ℕ) (r : Option (List ℕ)) (vs : List ℕ) → with_value o r ≡ Some vs → r ≡ Some (drop 1 vs)
behind_value None r vs e = cc
behind_value (Some v) None vs e = cc
behind_value (Some v) (Some ws) vs e = let same : v ∷ ws ≡ vs = cc in ap (λ us. Some (drop 1 us)) same

values_behind : (cs vs : List ℕ) → values_among digits cs ≡ Some vs → values_among digits (drop 1 cs) ≡ Some (drop 1 vs)
values_behind [] [] e = refl
values_behind [] (v ∷ vs) e = cc
values_behind (c ∷ cs) vs e = behind_value (value_among digits c) (values_among digits cs) vs e

not_six : (n : ℕ) → is_count 7 n ≡ true → eqb n 6 ≡ false
not_six n h1 = grind (arith, nat_tests)

module _ (src : List ℕ) (bars : Linear) (count : is_count 7 (length src) ≡ true) where
  six_named : (vs : List ℕ) (b : Bool) → length vs ≡ length src → eqb (get_or vs 0 0) 0 ≡ b → upce_short (six_of_digits vs) ≡ Ok bars
      → upce_short (Some (take 6 (drop 1 vs))) ≡ Ok bars
  six_named vs true n m e =
      let same : is_count 7 (length vs) ≡ true = rw n count in
      rw (not_six (length vs) same, same, m) at e
  six_named vs false n m e =
      let same : is_count 7 (length vs) ≡ true = rw n count in
      let none : upce_short None ≡ Ok bars = rw (not_six (length vs) same, same, m) at e in
      cc

  six_themselves : (ds : List ℕ) → length ds ≡ 6 → six_of_digits ds ≡ Some ds
  six_themselves ds h1 = rw h1 refl

  six_long : (n : ℕ) → is_count 7 n ≡ true → 7 ≤ n
  six_long n h1 = grind (arith, nat_tests)

  system_by : (o : Option (List ℕ)) → values_among digits src ≡ o → upce_symbol Digits o ≡ Ok bars → upce_of (take 6 (drop 1 src)) Digits ≡ Ok bars
  system_by None a e = cc
  system_by (Some vs) a e =
      let long = six_long (length src) count in
      let same = values_counted digits src vs a in
      let few : length (take 6 (drop 1 src)) ≡ 6 = length-take-le 6 (drop 1 src) (omega (arith, length-drop 1 src)) in
      let six : length (take 6 (drop 1 vs)) ≡ 6 = length-take-le 6 (drop 1 vs) (omega (arith, length-drop 1 vs)) in
      within_some (take 6 (drop 1 src)) (upce_symbol Digits (values_among digits (take 6 (drop 1 src)))) (omega arith) (omega arith)
      ∙ ap (upce_symbol Digits) (values_taken digits 6 (drop 1 src) (drop 1 vs) (values_behind src vs a))
      ∙ ap upce_short (six_themselves (take 6 (drop 1 vs)) six)
      ∙ six_named vs (eqb (get_or vs 0 0) 0) same refl e

  -- seven digits, and eight, are the six behind the first
  pub behind_system_same : upce_of src Digits ≡ Ok bars → upce_of (take 6 (drop 1 src)) Digits ≡ Ok bars
  behind_system_same e = system_by (values_among digits src) refl (within_ok src (upce_symbol Digits (values_among digits src)) bars e)
