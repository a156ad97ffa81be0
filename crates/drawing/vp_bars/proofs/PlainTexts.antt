-- The texts of symbols whose data stand for themselves.
use Rattle.std.proofs.Common.{◌≡◌, ℕ, ◌<◌, Bool, true, false, eqb, List, [], ◌∷◌, ◌++◌, get_or, refl, sym, ap, ◌∙◌, arith, Option, Some, None, Result, Ok}
use Rattle.std.specs.Prelude.{map}
use Rattle.std.specs.List.{list_any}
use Rattle.std.proofs.lemmas.Bool.{cases_Bool, eqb-true, lt-ltb}
use Rattle.std.proofs.lemmas.List.{append-nil}
use Rattle.std.proofs.lemmas.List.Quantifiers.{position-Some}
use Rattle.std.proofs.lemmas.List.Concat.{flat_map-append}
use Rattle.vp_dots.specs.declared.fault.Fault.{Fault}
use Rattle.vp_bars.specs.declared.code_128.CodeSet.TheVariants.{B}
use Rattle.vp_bars.specs.declared.code_128.Token.TheVariants.{Byte}
use Rattle.vp_bars.specs.Symbols.{Linear, within_length}
use Rattle.vp_bars.specs.Code39.{alphabet, value_of, with_value, values_of, code39_check, checked, star, unstarred, code39_symbol, symbol_for, code39_of}
use Rattle.vp_bars.specs.CodeSets.{tokens}
use Rattle.vp_bars.specs.Escapes.{brace, escaped, code128_esc_of}
use Rattle.vp_bars.specs.Invocations.{greater, invoked, invoked_from}
use Rattle.vp_bars.specs.Packing.{code128_zpl_of}
use Rattle.vp_bars.specs.Symbologies.{text_of}
use Rattle.vp_bars.specs.Texts.{character_of, characters}
use Rattle.vp_bars.proofs.PackedTexts.{Shows, byte_shown, no_values, symbol_text}

-- what isn't refused for its length
pub within_ok : (src : List ℕ) (r : Result Linear Fault) (bars : Linear) → within_length src r ≡ Ok bars → r ≡ Ok bars
within_ok src r bars h1 = grind (arith, cases_Bool)

-- a value of Code 39 is its character's
value_shown : (c v : ℕ) → value_of c ≡ Some v → (v < 43) × (get_or alphabet v 0 ≡ c)
value_shown c v e = let p = position-Some (λ a. eqb a c) alphabet v 0 e in (p.0, eqb-true (get_or alphabet v 0) c p.1)

shown_value : (c v : ℕ) (vs : List ℕ) → value_of c ≡ Some v → characters (v ∷ vs) ≡ c ∷ characters vs
shown_value c v vs e = let p = value_shown c v e in rw (lt-ltb v 43 p.0) (ap (λ n. n ∷ characters vs) p.1)

values_before : (c : ℕ) (cs vs : List ℕ) (o : Option ℕ) (r : Option (List ℕ)) → value_of c ≡ o
    → ((ws : List ℕ) → r ≡ Some ws → characters ws ≡ cs) → with_value o r ≡ Some vs → characters vs ≡ c ∷ cs
values_before c cs vs o r h1 h2 h3 = grind (arith, shown_value)

values_shown : (cs vs : List ℕ) → values_of cs ≡ Some vs → characters vs ≡ cs
values_shown [] [] e = refl
values_shown [] (v ∷ vs) e = cc
values_shown (c ∷ cs) vs e = values_before c cs vs (value_of c) (values_of cs) refl (λ ws f. values_shown cs ws f) e

-- the stars show nothing
between_stars : (vs : List ℕ) → characters (star ∷ (vs ++ star ∷ [])) ≡ characters vs
between_stars vs = flat_map-append character_of vs (star ∷ []) ∙ append-nil (characters vs)

symbol_shown : (check : Bool) (chars vs : List ℕ) (bars : Linear) → symbol_for check chars ≡ Ok bars → values_of chars ≡ Some vs → text_of bars ≡ characters (checked check vs)
unfolding text_of
symbol_shown check chars vs bars h1 h2 = grind (arith, between_stars)

has_values : (check : Bool) (chars : List ℕ) (bars : Linear) → symbol_for check chars ≡ Ok bars → (vs : List ℕ) × (values_of chars ≡ Some vs)
has_values check [] bars e = cc
has_values check (c ∷ cs) bars e = by_values (values_of (c ∷ cs)) refl
  where
    by_values : (o : Option (List ℕ)) → values_of (c ∷ cs) ≡ o → (vs : List ℕ) × (values_of (c ∷ cs) ≡ Some vs)
    by_values None a = let none : code39_symbol check None ≡ Ok bars = ap (code39_symbol check) (sym a) ∙ e in cc
    by_values (Some vs) a = (vs, a)

pub code39_text : (src : List ℕ) (bars : Linear) → code39_of src false ≡ Ok bars → text_of bars ≡ unstarred src
code39_text src bars e =
    let made = within_ok src (symbol_for false (unstarred src)) bars e in
    let values = has_values false (unstarred src) bars made in
    symbol_shown false (unstarred src) values.0 bars made values.1 ∙ values_shown (unstarred src) values.0 values.1

pub code39_checked : (src vs : List ℕ) (bars : Linear) → code39_of src true ≡ Ok bars → values_of (unstarred src) ≡ Some vs
    → text_of bars ≡ unstarred src ++ get_or alphabet (code39_check vs) 0 ∷ []
code39_checked src vs bars e f =
    let made = within_ok src (symbol_for true (unstarred src)) bars e in
    let small : code39_check vs < 43 = omega arith in
    let check : character_of (code39_check vs) ≡ get_or alphabet (code39_check vs) 0 ∷ [] = rw (lt-ltb (code39_check vs) 43 small) refl in
    symbol_shown true (unstarred src) vs bars made f
    ∙ flat_map-append character_of vs (code39_check vs ∷ [])
    ∙ ap (λ (t : List ℕ). characters vs ++ t) (append-nil (character_of (code39_check vs)) ∙ check)
    ∙ ap (λ (t : List ℕ). t ++ get_or alphabet (code39_check vs) 0 ∷ []) (values_shown (unstarred src) vs f)

-- data without the lead of codes are bytes alone
alone : (lead : ℕ) (src : List ℕ) → list_any (λ b. eqb b lead) src ≡ false → tokens lead src ≡ map (λ b. Byte b) src
alone lead [] e = refl
alone lead (b ∷ []) e = grind arith
alone lead (b ∷ c ∷ bytes) e = grind (arith, alone lead (c ∷ bytes))

bytes_escaped : (src : List ℕ) → Shows B (escaped B (map (λ b. Byte b) src)) src
bytes_escaped [] vs e = no_values B vs e
bytes_escaped (b ∷ src) vs e = byte_shown b src vs (escaped B (map (λ a. Byte a) src)) (bytes_escaped src) e

bytes_invoked : (src : List ℕ) → Shows B (invoked B (map (λ b. Byte b) src)) src
bytes_invoked [] vs e = no_values B vs e
bytes_invoked (b ∷ src) vs e = byte_shown b src vs (invoked B (map (λ a. Byte a) src)) (bytes_invoked src) e

invoked_text : (src : List ℕ) (bars : Linear) → list_any (λ b. eqb b greater) src ≡ false → invoked_from B src ≡ Ok bars → text_of bars ≡ src
invoked_text src bars n e =
    symbol_text B src (invoked B (tokens greater src)) bars (rw (alone greater src n) (bytes_invoked src)) e

pub label_text : (src : List ℕ) (bars : Linear) → list_any (λ b. eqb b greater) src ≡ false → code128_zpl_of src false ≡ Ok bars → text_of bars ≡ src
label_text src bars h1 h2 = grind (arith, invoked_text, within_ok)

pub receipt_text : (src : List ℕ) (bars : Linear) → list_any (λ b. eqb b brace) src ≡ false → code128_esc_of (brace ∷ 66 ∷ src) ≡ Ok bars → text_of bars ≡ src
receipt_text src bars n e =
    symbol_text B src (escaped B (tokens brace src)) bars (rw (alone brace src n) (bytes_escaped src)) (within_ok (brace ∷ 66 ∷ src) _ bars e)
