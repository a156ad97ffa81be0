-- Characters of text, one by one.
use Rattle.std.proofs.Common.{◌≡◌, ℕ, ◌<◌, ◌-◌, ◌≤◌, List, [], ◌∷◌, ◌++◌, length, take, drop, get_or, refl, sym, ap, ◌∙◌, arith, Bool, Option, Some, None}
use Rattle.std.proofs.lemmas.List.{take_rest}
use Rattle.vp_pdf417.specs.declared.submode.Submode.{Submode}
use Rattle.vp_pdf417.specs.declared.submode.TheConstants.{PUNCTUATION}
use Rattle.vp_pdf417.specs.Text.{capital, value_in, place_in, values_by, mode_by, values_of, mode_behind, text_values}

pub text_more : (mode : Submode) (xs : List ℕ) → 1 ≤ length xs → text_values mode xs
    ≡ values_of mode (get_or xs 0 0) (capital (get_or (take (length xs - 1) (drop 1 xs)) 0 0))
    ++ text_values (mode_behind mode (get_or xs 0 0) (capital (get_or (take (length xs - 1) (drop 1 xs)) 0 0))) (take (length xs - 1) (drop 1 xs))
unfolding text_values
text_more mode [] h = absurd (omega arith)
text_more mode (x ∷ xs) h =
    ap (λ (l : List ℕ). values_of mode x (capital (get_or l 0 0)) ++ text_values (mode_behind mode x (capital (get_or l 0 0))) l) (sym (take_rest (x ∷ xs) 1))

pub text_none : (mode : Submode) (xs : List ℕ) → length xs < 1 → text_values mode xs ≡ []
unfolding text_values
text_none mode [] h = refl
text_none mode (x ∷ xs) h = absurd (omega arith)

-- a character that the sub-mode has, one of punctuation, and another
pub values_here : (mode : Submode) (byte : ℕ) (more : Bool) (value : ℕ) → value_in mode byte ≡ Some value → values_of mode byte more ≡ value ∷ []
unfolding values_of
values_here mode byte more value h = ap (λ (v : Option ℕ). values_by v (place_in PUNCTUATION byte) mode byte more) h

pub mode_here : (mode : Submode) (byte : ℕ) (more : Bool) (value : ℕ) → value_in mode byte ≡ Some value → mode_behind mode byte more ≡ mode
unfolding mode_behind
mode_here mode byte more value h = ap (λ (v : Option ℕ). mode_by v (place_in PUNCTUATION byte) mode byte more) h

pub values_mark : (mode : Submode) (byte : ℕ) (more : Bool) (value : ℕ) → value_in mode byte ≡ None → place_in PUNCTUATION byte ≡ Some value → values_of mode byte more ≡ 29 ∷ value ∷ []
unfolding values_of
values_mark mode byte more value h e = ap (λ (v : Option ℕ). values_by v (place_in PUNCTUATION byte) mode byte more) h ∙ ap (λ (v : Option ℕ). values_by None v mode byte more) e

pub mode_mark : (mode : Submode) (byte : ℕ) (more : Bool) (value : ℕ) → value_in mode byte ≡ None → place_in PUNCTUATION byte ≡ Some value → mode_behind mode byte more ≡ mode
unfolding mode_behind
mode_mark mode byte more value h e = ap (λ (v : Option ℕ). mode_by v (place_in PUNCTUATION byte) mode byte more) h ∙ ap (λ (v : Option ℕ). mode_by None v mode byte more) e

pub values_else : (mode : Submode) (byte : ℕ) (more : Bool) → value_in mode byte ≡ None → place_in PUNCTUATION byte ≡ None → values_of mode byte more ≡ values_by None None mode byte more
unfolding values_of
values_else mode byte more h e = ap (λ (v : Option ℕ). values_by v (place_in PUNCTUATION byte) mode byte more) h ∙ ap (λ (v : Option ℕ). values_by None v mode byte more) e

pub mode_else : (mode : Submode) (byte : ℕ) (more : Bool) → value_in mode byte ≡ None → place_in PUNCTUATION byte ≡ None → mode_behind mode byte more ≡ mode_by None None mode byte more
unfolding mode_behind
mode_else mode byte more h e = ap (λ (v : Option ℕ). mode_by v (place_in PUNCTUATION byte) mode byte more) h ∙ ap (λ (v : Option ℕ). mode_by None v mode byte more) e
