-- Signs, one by one.
use Rattle.std.proofs.Common.{◌≡◌, ◌≢◌, ℕ, ◌+◌, ◌==◌, ◌<◌, ◌≤◌, ◌∷◌, [], Bool, true, false, cond, eqb, not, ◌&&◌, ◌||◌, is_some, Option, None, Some, List, length, get_or, drop, ap, ◌∙◌, refl, arith, eq-eqb}
use Rattle.std.proofs.lemmas.List.{at_drop_more, at_drop_all}
use Rattle.std.proofs.lemmas.Bool.Decides.{nat_tests}
use Rattle.vp_packed.specs.Base64.{value_of, is_break, is_padding, and_value, values, are_signs, bytes_from}
use Rattle.vp_packed.specs.Texts.{signs_before}
use Rattle.vp_packed.specs.declared.sign.Group.{Group}
use Rattle.vp_packed.specs.Kept.{spelled, behind}

values_more : (signs : List ℕ) (i : ℕ) → i < length signs → values (drop i signs)
    ≡ cond (is_padding (get_or signs i 0)) [] (and_value (value_of (get_or signs i 0)) (values (drop (i + 1) signs)))
unfolding values
values_more signs i h = at_drop_more values signs i 0 h

pub values_padding : (signs : List ℕ) (i : ℕ) → i < length signs → get_or signs i 0 ≡ 61 → values (drop i signs) ≡ []
values_padding signs i h e = values_more signs i h
    ∙ ap (λ (b : Bool). cond b [] (and_value (value_of (get_or signs i 0)) (values (drop (i + 1) signs)))) (eq-eqb (get_or signs i 0) 61 e)

pub values_other : (signs : List ℕ) (i : ℕ) → i < length signs → get_or signs i 0 ≢ 61 → values (drop i signs)
    ≡ and_value (value_of (get_or signs i 0)) (values (drop (i + 1) signs))
values_other signs i h e =
    let t : eqb (get_or signs i 0) 61 ≡ false = grind (arith, nat_tests) in
    values_more signs i h ∙ ap (λ (b : Bool). cond b [] (and_value (value_of (get_or signs i 0)) (values (drop (i + 1) signs)))) t

pub spelled_none : (group : Group) (signs : List ℕ) (i : ℕ) → length signs ≤ i → spelled group (drop i signs) ≡ []
unfolding values bytes_from
spelled_none group signs i h = at_drop_all (spelled group) signs i h

pub behind_nothing : (group : Group) → behind group [] ≡ []
unfolding bytes_from
behind_nothing group = refl

before_more : (text : List ℕ) (i : ℕ) → i < length text → signs_before (drop i text) ≡ cond (eqb (get_or text i 0) 58) 0 (signs_before (drop (i + 1) text) + 1)
unfolding signs_before
before_more text i h = at_drop_more signs_before text i 0 h

pub before_none : (text : List ℕ) (i : ℕ) → length text ≤ i → signs_before (drop i text) ≡ 0
unfolding signs_before
before_none text i h = at_drop_all signs_before text i h

signs_more : (padded : Bool) (signs : List ℕ) (i : ℕ) → i < length signs → are_signs padded (drop i signs)
    ≡ cond (is_break (get_or signs i 0)) (are_signs padded (drop (i + 1) signs))
    (cond (is_padding (get_or signs i 0)) (are_signs true (drop (i + 1) signs))
    (not padded && is_some (value_of (get_or signs i 0)) && are_signs padded (drop (i + 1) signs)))
unfolding are_signs
signs_more padded signs i h = at_drop_more (are_signs padded) signs i 0 h

pub signs_none : (padded : Bool) (signs : List ℕ) (i : ℕ) → length signs ≤ i → are_signs padded (drop i signs) ≡ true
unfolding are_signs
signs_none padded signs i h = at_drop_all (are_signs padded) signs i h

-- a sign of each kind
pub signs_break : (padded : Bool) (signs : List ℕ) (i : ℕ) → i < length signs → is_break (get_or signs i 0) ≡ true → are_signs padded (drop i signs) ≡ are_signs padded (drop (i + 1) signs)
signs_break padded signs i h e = signs_more padded signs i h ∙ ap (λ (b : Bool). cond b (are_signs padded (drop (i + 1) signs))
    (cond (is_padding (get_or signs i 0)) (are_signs true (drop (i + 1) signs))
    (not padded && is_some (value_of (get_or signs i 0)) && are_signs padded (drop (i + 1) signs)))) e

signs_written : (padded : Bool) (signs : List ℕ) (i : ℕ) → i < length signs → is_break (get_or signs i 0) ≡ false → are_signs padded (drop i signs)
    ≡ cond (is_padding (get_or signs i 0)) (are_signs true (drop (i + 1) signs))
    (not padded && is_some (value_of (get_or signs i 0)) && are_signs padded (drop (i + 1) signs))
signs_written padded signs i h e = signs_more padded signs i h ∙ ap (λ (b : Bool). cond b (are_signs padded (drop (i + 1) signs))
    (cond (is_padding (get_or signs i 0)) (are_signs true (drop (i + 1) signs))
    (not padded && is_some (value_of (get_or signs i 0)) && are_signs padded (drop (i + 1) signs)))) e

pub signs_padding : (padded : Bool) (signs : List ℕ) (i : ℕ) → i < length signs → is_break (get_or signs i 0) ≡ false → get_or signs i 0 ≡ 61
    → are_signs padded (drop i signs) ≡ are_signs true (drop (i + 1) signs)
signs_padding padded signs i h e u = signs_written padded signs i h e ∙ ap (λ (b : Bool). cond b (are_signs true (drop (i + 1) signs))
    (not padded && is_some (value_of (get_or signs i 0)) && are_signs padded (drop (i + 1) signs))) (eq-eqb (get_or signs i 0) 61 u)

pub signs_valued : (padded : Bool) (signs : List ℕ) (i : ℕ) → i < length signs → is_break (get_or signs i 0) ≡ false → get_or signs i 0 ≢ 61
    → are_signs padded (drop i signs) ≡ (not padded && is_some (value_of (get_or signs i 0)) && are_signs padded (drop (i + 1) signs))
signs_valued padded signs i h e u =
    let t : eqb (get_or signs i 0) 61 ≡ false = grind (arith, nat_tests) in
    signs_written padded signs i h e ∙ ap (λ (b : Bool). cond b (are_signs true (drop (i + 1) signs))
    (not padded && is_some (value_of (get_or signs i 0)) && are_signs padded (drop (i + 1) signs))) t

pub before_here : (text : List ℕ) (i : ℕ) → i < length text → get_or text i 0 ≡ 58 → signs_before (drop i text) ≡ 0
before_here text i h e = before_more text i h ∙ ap (λ (b : Bool). cond b 0 (signs_before (drop (i + 1) text) + 1)) (eq-eqb (get_or text i 0) 58 e)

pub before_on : (text : List ℕ) (i : ℕ) → i < length text → get_or text i 0 ≢ 58 → signs_before (drop i text) ≡ signs_before (drop (i + 1) text) + 1
before_on text i h e =
    let t : eqb (get_or text i 0) 58 ≡ false = grind (arith, nat_tests) in
    before_more text i h ∙ ap (λ (b : Bool). cond b 0 (signs_before (drop (i + 1) text) + 1)) t
