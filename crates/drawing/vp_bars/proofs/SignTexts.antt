-- The texts of signs are the signs.
use Rattle.std.proofs.Common.{◌≡◌, ℕ, ◌-◌, ◌<◌, Bool, true, false, not, ◌||◌, eqb, ltb, leb, List, [], ◌∷◌, ◌++◌, length, map, take, get_or, refl, sym, ap, ◌∙◌, append_assoc, arith, Option, Some, None, Result, Ok}
use Rattle.std.proofs.lemmas.Bool.{eqb-true, lt-ltb}
use Rattle.std.proofs.lemmas.List.{length-append}
use Rattle.std.proofs.Math.Seq.{take-append_seam}
use Rattle.std.specs.List.{list_any, range_with_len}
use Rattle.std.proofs.lemmas.List.Quantifiers.{position-Some}
use Rattle.std.proofs.lemmas.List.Concat.{flat_map-append}
use Rattle.std.proofs.lemmas.List.FromFn.{get_or-range_with_len}
use Rattle.vp_dots.specs.declared.fault.Fault.{Fault}
use Rattle.vp_bars.specs.Symbols.{Linear}
use Rattle.vp_bars.specs.Code39.{with_value}
use Rattle.vp_bars.specs.Signs.{value_among, values_among, sign_of, signs_of}
use Rattle.vp_bar_code.specs.declared.CodabarEnd.{CodabarEnd}
use Rattle.vp_bar_code.specs.declared.CodabarEnd.TheVariants.{A, B, C, D}
use Rattle.vp_bar_code.specs.declared.CodabarEnds.TheVariants.{Data, Around}
use Rattle.vp_bar_code.specs.declared.Code93Data.TheVariants.{Signs}
use Rattle.vp_bars.specs.declared.symbology.Symbology.TheVariants.{Code93}
use Rattle.vp_bars.specs.Codabar.{codabar_signs, codabar_made, has_ends, end_value, codabar_for, capital, codabar_of}
use Rattle.vp_bars.specs.Code93.{code93_signs, code93_symbol, code93_of}
use Rattle.vp_bars.specs.Laws.{is_letter, end_letter}
use Rattle.vp_bars.specs.Symbologies.{text_of}
use Rattle.vp_bars.proofs.Lists.{list_all_get}
use Rattle.vp_bars.proofs.PlainTexts.{within_ok}

module _ (alphabet : List ℕ) where
  value_shown : (c v : ℕ) → value_among alphabet c ≡ Some v → sign_of alphabet v ≡ c ∷ []
  value_shown c v e =
      let p = position-Some (λ a. eqb a c) alphabet v 0 e in
      rw (lt-ltb v (length alphabet) p.0) (ap (λ n. n ∷ []) (eqb-true (get_or alphabet v 0) c p.1))

  before : (c : ℕ) (cs vs : List ℕ) (o : Option ℕ) (r : Option (List ℕ)) → value_among alphabet c ≡ o
      → ((ws : List ℕ) → r ≡ Some ws → signs_of alphabet ws ≡ cs) → with_value o r ≡ Some vs → signs_of alphabet vs ≡ c ∷ cs
  before c cs vs None r a h e = cc
  before c cs vs (Some v) None a h e = cc
  before c cs vs (Some v) (Some ws) a h e =
      let same : v ∷ ws ≡ vs = cc in
      ap (signs_of alphabet) (sym same) ∙ ap (λ t. t ++ signs_of alphabet ws) (value_shown c v a) ∙ ap (λ t. c ∷ t) (h ws refl)

  -- the signs of values are what has these values
  pub signs_shown : (cs vs : List ℕ) → values_among alphabet cs ≡ Some vs → signs_of alphabet vs ≡ cs
  signs_shown [] [] e = refl
  signs_shown [] (v ∷ vs) e = cc
  signs_shown (c ∷ cs) vs e = before c cs vs (value_among alphabet c) (values_among alphabet cs) refl (λ ws f. signs_shown cs ws f) e

made_text : (vs : List ℕ) (bars : Linear) (p q : Bool) → has_ends vs ≡ p → ltb (length vs) 3 ≡ q → codabar_made vs ≡ Ok bars → text_of bars ≡ signs_of codabar_signs vs
unfolding text_of
made_text vs bars p q g h e = grind arith

codabar_by : (src : List ℕ) (bars : Linear) (o : Option (List ℕ)) → values_among codabar_signs src ≡ o → codabar_for Data o ≡ Ok bars → text_of bars ≡ src
codabar_by src bars None a e = cc
codabar_by src bars (Some vs) a e = made_text vs bars (has_ends vs) (ltb (length vs) 3) refl refl e ∙ signs_shown codabar_signs src vs a

pub codabar_text : (src : List ℕ) (bars : Linear) → codabar_of src Data ≡ Ok bars → text_of bars ≡ map capital src
codabar_text src bars e = codabar_by (map capital src) bars (values_among codabar_signs (map capital src)) refl
    (within_ok src (codabar_for Data (values_among codabar_signs (map capital src))) bars e)

-- the values that start and stop a symbol are those of the letters
end_is_letter : (v : ℕ) → v < 20 → (leb 16 v ≡ true) → is_letter (get_or codabar_signs v 0) ≡ true
end_is_letter v l h =
    let at : get_or (range_with_len 0 20) v 0 ≡ v = get_or-range_with_len 0 20 v 0 l ∙ omega arith in
    let all : (not (leb 16 (get_or (range_with_len 0 20) v 0)) || is_letter (get_or codabar_signs (get_or (range_with_len 0 20) v 0) 0)) ≡ true =
    list_all_get (λ n. not (leb 16 n) || is_letter (get_or codabar_signs n 0)) (range_with_len 0 20) v 0 l refl in
    rw (at, h) at all

no_end : (c v : ℕ) (b : Bool) → value_among codabar_signs c ≡ Some v → is_letter c ≡ false → leb 16 v ≡ b → leb 16 v ≡ false
no_end c v false a n h = h
no_end c v true a n h =
    let p = position-Some (λ s. eqb s c) codabar_signs v 0 a in
    let same : is_letter (get_or codabar_signs v 0) ≡ is_letter c = ap is_letter (eqb-true (get_or codabar_signs v 0) c p.1) in
    let letter = end_is_letter v p.0 h in
    cc

-- data without letters have no ends
first_no_end : (c : ℕ) (vs : List ℕ) (o : Option ℕ) (r : Option (List ℕ)) → value_among codabar_signs c ≡ o → is_letter c ≡ false → with_value o r ≡ Some vs
    → has_ends vs ≡ false
first_no_end c vs None r a n e = cc
first_no_end c vs (Some v) None a n e = cc
first_no_end c vs (Some v) (Some ws) a n e =
    let same : v ∷ ws ≡ vs = cc in
    ap has_ends (sym same) ∙ rw (no_end c v (leb 16 v) a n refl) refl

end_shown : (letter : CodabarEnd) → sign_of codabar_signs (end_value letter) ≡ end_letter letter ∷ []
end_shown A = refl
end_shown B = refl
end_shown C = refl
end_shown D = refl

module _ (start stop : CodabarEnd) (bars : Linear) where
  put_around : (src vs : List ℕ) → values_among codabar_signs src ≡ Some vs
      → signs_of codabar_signs (end_value start ∷ vs ++ end_value stop ∷ []) ≡ end_letter start ∷ src ++ end_letter stop ∷ []
  put_around src vs a =
      ap (λ t. t ++ signs_of codabar_signs (vs ++ end_value stop ∷ [])) (end_shown start)
      ∙ ap (λ t. end_letter start ∷ t) (flat_map-append (sign_of codabar_signs) vs (end_value stop ∷ [])
      ∙ ap (λ t. t ++ signs_of codabar_signs (end_value stop ∷ [])) (signs_shown codabar_signs src vs a)
      ∙ ap (λ t. src ++ (t ++ [])) (end_shown stop))

  around_by : (c : ℕ) (cs : List ℕ) (o : Option (List ℕ)) → is_letter c ≡ false → values_among codabar_signs (c ∷ cs) ≡ o
      → codabar_for (Around start stop) o ≡ Ok bars → text_of bars ≡ end_letter start ∷ (c ∷ cs) ++ end_letter stop ∷ []
  around_by c cs None n a e = cc
  around_by c cs (Some vs) n a e =
      let all : List ℕ = end_value start ∷ vs ++ end_value stop ∷ [] in
      let none = first_no_end c vs (value_among codabar_signs c) (values_among codabar_signs cs) refl n a in
      made_text all bars (has_ends all) (ltb (length all) 3) refl refl (rw none at e) ∙ put_around (c ∷ cs) vs a

  pub around_text : (src : List ℕ) → list_any is_letter src ≡ false → codabar_of src (Around start stop) ≡ Ok bars
      → text_of bars ≡ end_letter start ∷ src ++ end_letter stop ∷ []
  around_text [] n e = cc
  around_text (c ∷ cs) n e = around_by c cs (values_among codabar_signs (c ∷ cs)) (or_false (is_letter c) (list_any is_letter cs) n) refl
      (within_ok (c ∷ cs) (codabar_for (Around start stop) (values_among codabar_signs (c ∷ cs))) bars e)
    where
      or_false : (x y : Bool) → (x || y) ≡ false → x ≡ false
      or_false x y h = grind arith

-- what stands before two check characters
pub without_two : (vs : List ℕ) (c k : ℕ) → take (length ((vs ++ c ∷ []) ++ k ∷ []) - 2) ((vs ++ c ∷ []) ++ k ∷ []) ≡ vs
without_two vs c k =
    let n : length ((vs ++ c ∷ []) ++ k ∷ []) - 2 ≡ length vs = omega (arith, length-append (vs ++ c ∷ []) (k ∷ []), length-append vs (c ∷ [])) in
    ap (λ i. take i ((vs ++ c ∷ []) ++ k ∷ [])) n ∙ ap (take (length vs)) (append_assoc vs (c ∷ []) (k ∷ [])) ∙ take-append_seam vs (c ∷ k ∷ [])

code93_by : (src : List ℕ) (bars : Linear) (o : Option (List ℕ)) → values_among code93_signs src ≡ o → code93_symbol Code93 o ≡ Ok bars → text_of bars ≡ src
unfolding text_of
code93_by src bars None a e = cc
code93_by src bars (Some vs) a e = rw (sym (same e)) (ap (signs_of code93_signs) (without_two vs _ _) ∙ signs_shown code93_signs src vs a)
  where
    same : {x y : Linear} → ◌≡◌ {A = Result Linear Fault} (Ok x) (Ok y) → x ≡ y
    same h = cc

pub code93_text : (src : List ℕ) (bars : Linear) → code93_of src Signs ≡ Ok bars → text_of bars ≡ src
code93_text src bars e = code93_by src bars (values_among code93_signs src) refl (within_ok src (code93_symbol Code93 (values_among code93_signs src)) bars e)
