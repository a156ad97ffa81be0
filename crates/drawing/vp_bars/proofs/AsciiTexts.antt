-- The text of a Code 93 symbol of ASCII is its characters.
use Rattle.std.proofs.Common.{◌≡◌, ℕ, ◌<◌, Bool, true, false, not, eqb, ltb, ◌&&◌, List, [], ◌∷◌, ◌++◌, length, map, get_or, refl, sym, ap, ◌∙◌, arith, Option, Some, None, Result, Ok}
use Rattle.std.specs.List.{range_with_len}
use Rattle.std.proofs.lemmas.Bool.{and_parts, eqb-true, ltb-true, not-true}
use Rattle.std.proofs.lemmas.List.FromFn.{get_or-range_with_len}
use Rattle.vp_dots.specs.declared.fault.Fault.{Fault}
use Rattle.vp_bar_code.specs.declared.Code93Data.TheVariants.{Ascii}
use Rattle.vp_bars.specs.declared.symbology.Symbology.TheVariants.{Code93Ascii}
use Rattle.vp_bars.specs.Symbols.{Linear}
use Rattle.vp_bars.specs.Code39.{with_value}
use Rattle.vp_bars.specs.Signs.{value_among, values_among}
use Rattle.vp_bars.specs.Code93.{code93_signs, code93_symbol, ascii_signs, spelled, is_ascii, ascii_symbol, shown_behind, ascii_from, code93_of}
use Rattle.vp_bars.specs.Laws.{printed}
use Rattle.vp_bars.specs.Symbologies.{text_of}
use Rattle.vp_bars.proofs.Lists.{list_all_get}
use Rattle.vp_bars.proofs.PlainTexts.{within_ok}
use Rattle.vp_bars.proofs.SignTexts.{without_two}

-- whether a sign shows a character, or a shift and a letter do
abbrev shows_one : Option ℕ → ℕ → Bool
shows_one None p = false
shows_one (Some v) p = ltb v 43 && eqb (get_or code93_signs v 0) p

abbrev shows_two : Option ℕ → Option ℕ → ℕ → Bool
shows_two None o p = false
shows_two (Some s) None p = false
shows_two (Some s) (Some v) p = not (ltb s 43) && (ltb v 43 && eqb (shown_behind s v) p)

abbrev shows : List ℕ → ℕ → Bool
shows [] p = false
shows (s ∷ []) p = shows_one (value_among code93_signs s) p
shows (s ∷ t ∷ []) p = shows_two (value_among code93_signs s) (value_among code93_signs t) p
shows (s ∷ t ∷ u ∷ ss) p = false

shown_one : (c : ℕ) → c < 128 → shows (ascii_signs c) (printed c) ≡ true
shown_one c h =
    let at : get_or (range_with_len 0 128) c 0 ≡ c = get_or-range_with_len 0 128 c 0 h ∙ omega arith in
    ap (λ n. shows (ascii_signs n) (printed n)) (sym at)
    ∙ list_all_get (λ n. shows (ascii_signs n) (printed n)) (range_with_len 0 128) c 0 h refl

-- the text of more characters behind one
module _ (p : ℕ) (text vs : List ℕ) where
  behind_sign : (o : Option ℕ) (r : Option (List ℕ)) → shows_one o p ≡ true → ((ws : List ℕ) → r ≡ Some ws → ascii_from 0 ws ≡ text)
      → with_value o r ≡ Some vs → ascii_from 0 vs ≡ p ∷ text
  behind_sign None r g h e = cc
  behind_sign (Some v) None g h e = cc
  behind_sign (Some v) (Some ws) g h e =
      let same : v ∷ ws ≡ vs = cc in
      let parts = and_parts (ltb v 43) (eqb (get_or code93_signs v 0) p) g in
      let shown : ascii_from 0 (v ∷ ws) ≡ p ∷ text = rw parts.0
      (ap (λ n. n ∷ ascii_from 0 ws) (eqb-true (get_or code93_signs v 0) p parts.1) ∙ ap (λ t. p ∷ t) (h ws refl)) in
      ap (ascii_from 0) (sym same) ∙ shown

  behind_pair : (o q : Option ℕ) (r : Option (List ℕ)) → shows_two o q p ≡ true → ((ws : List ℕ) → r ≡ Some ws → ascii_from 0 ws ≡ text)
      → with_value o (with_value q r) ≡ Some vs → ascii_from 0 vs ≡ p ∷ text
  behind_pair None q r g h e = cc
  behind_pair (Some s) None r g h e = cc
  behind_pair (Some s) (Some v) None g h e = cc
  behind_pair (Some s) (Some v) (Some ws) g h e =
      let same : s ∷ v ∷ ws ≡ vs = cc in
      let parts = and_parts (not (ltb s 43)) (ltb v 43 && eqb (shown_behind s v) p) g in
      let others = and_parts (ltb v 43) (eqb (shown_behind s v) p) parts.1 in
      let shown : ascii_from 0 (s ∷ v ∷ ws) ≡ p ∷ text = rw (not-true (ltb s 43) parts.0, others.0)
      (ap (λ n. n ∷ ascii_from 0 ws) (eqb-true (shown_behind s v) p others.1) ∙ ap (λ t. p ∷ t) (h ws refl)) in
      ap (ascii_from 0) (sym same) ∙ shown

  behind_one : (ss rest : List ℕ) → shows ss p ≡ true → ((ws : List ℕ) → values_among code93_signs rest ≡ Some ws → ascii_from 0 ws ≡ text)
      → values_among code93_signs (ss ++ rest) ≡ Some vs → ascii_from 0 vs ≡ p ∷ text
  behind_one [] rest g h e = cc
  behind_one (s ∷ []) rest g h e = behind_sign (value_among code93_signs s) (values_among code93_signs rest) g h e
  behind_one (s ∷ t ∷ []) rest g h e =
      behind_pair (value_among code93_signs s) (value_among code93_signs t) (values_among code93_signs rest) g h e
  behind_one (s ∷ t ∷ u ∷ ss) rest g h e = cc

-- all characters
all_shown : (src vs : List ℕ) → is_ascii src ≡ true → values_among code93_signs (spelled src) ≡ Some vs → ascii_from 0 vs ≡ map printed src
all_shown [] [] a e = refl
all_shown [] (v ∷ vs) a e = cc
all_shown (c ∷ src) vs a e =
    let parts = and_parts (ltb c 128) (is_ascii src) a in
    behind_one (printed c) (map printed src) vs (ascii_signs c) (spelled src) (shown_one c (ltb-true c 128 parts.0)) (λ ws f. all_shown src ws parts.1 f) e

module _ (src : List ℕ) (bars : Linear) where
  signs_by : (o : Option (List ℕ)) → is_ascii src ≡ true → values_among code93_signs (spelled src) ≡ o → code93_symbol Code93Ascii o ≡ Ok bars
      → text_of bars ≡ map printed src
  unfolding text_of
  signs_by None a f e = cc
  signs_by (Some vs) a f e = rw (sym (same e)) (ap (ascii_from 0) (without_two vs _ _) ∙ all_shown src vs a f)
    where
      same : {x y : Linear} → ◌≡◌ {A = Result Linear Fault} (Ok x) (Ok y) → x ≡ y
      same h = cc

  made : (a m : Bool) → is_ascii src ≡ a → ltb 255 (length (spelled src)) ≡ m → ascii_symbol src ≡ Ok bars → text_of bars ≡ map printed src
  made false m f g e = grind arith
  made true true f g e = grind arith
  made true false f g e = signs_by (values_among code93_signs (spelled src)) f refl (rw (f, g) at e)

  pub ascii_text : code93_of src Ascii ≡ Ok bars → text_of bars ≡ map printed src
  ascii_text e = made (is_ascii src) (ltb 255 (length (spelled src))) refl refl (within_ok src (ascii_symbol src) bars e)
