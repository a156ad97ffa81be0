-- What each unit asks.
use Rattle.std.proofs.Common.{◌≡◌, ℕ, ◌+◌, suc, Bool, true, false, if◌then◌else◌, List, [], ◌∷◌, ◌++◌, length, refl, sym, ap, subst, ◌∙◌, append_assoc, length-append, arith}
use Rattle.std.proofs.lemmas.List.{append-nil}
use Rattle.vp_esc.specs.declared.reading.Reading.TheVariants.{Whole}
use Rattle.vp_esc.specs.Units.{is_unfinished}
use Rattle.vp_esc.specs.Split.{Split, split, with_byte, with_rest}
use Rattle.vp_requests.specs.declared.request.Request.{Request}
use Rattle.vp_requests.specs.Units.{ask_of, if_asked, asked, unit_request}
use Rattle.vp_requests.specs.Requests.{behind, unit_requests}
use Rattle.vp_requests.specs.Laws.{units_ask}
use Rattle.vp_requests.proofs.Going.{behind-push}
use Rattle.vp_requests.proofs.UnitEnds.{split-push, split_nil}

abbrev total : List (List ℕ) → ℕ
total [] = 0
total (unit ∷ units) = length unit + total units

total-push : (units : List (List ℕ)) (unit : List ℕ) → total (units ++ unit ∷ []) ≡ total units + length unit
total-push [] unit = omega arith
total-push (one ∷ units) unit = omega (arith, total-push units unit)

ask-push : (place : ℕ) (units : List (List ℕ)) (unit : List ℕ)
    → units_ask place (units ++ unit ∷ []) ≡ units_ask place units ++ if_asked (ask_of unit) unit (place + (total units + length unit))
unfolding units_ask
ask-push place [] unit = append-nil (if_asked (ask_of unit) unit (place + length unit)) ∙ ap (λ (n : ℕ). if_asked (ask_of unit) unit n) (omega arith)
ask-push place (one ∷ units) unit =
    let first = if_asked (ask_of one) one (place + length one) in
    ap (λ (xs : List Request). first ++ xs) (ask-push (place + length one) units unit)
    ∙ ap (λ (n : ℕ). first ++ (units_ask (place + length one) units ++ if_asked (ask_of unit) unit n)) (omega arith)
    ∙ sym (append_assoc first (units_ask (place + length one) units) (if_asked (ask_of unit) unit (place + ((length one + total units) + length unit))))

push : (bytes : List ℕ) (c : ℕ) → unit_requests (bytes ++ c ∷ []) ≡ unit_requests bytes ++ unit_request bytes c
unfolding unit_requests
push bytes c = behind-push unit_request [] bytes c

-- those of the units so far are told, and what the units and the rest are long together
record Told (bytes : List ℕ) (s : Split) : Type 0 where
  all : unit_requests bytes ≡ units_ask 0 s.units
  long : total s.units + length s.rest ≡ length bytes

by_unit : (bytes : List ℕ) (c : ℕ) (so : Bool) → is_unfinished Whole ((split Whole bytes).rest ++ c ∷ []) ≡ so → Told bytes (split Whole bytes)
    → Told (bytes ++ c ∷ []) (with_rest (split Whole bytes).units ((split Whole bytes).rest ++ c ∷ []) so)
by_unit bytes c true e t =
    let s = split Whole bytes in
    record {
      all = push bytes c ∙ ap (λ (xs : List Request). unit_requests bytes ++ xs) (rw e refl) ∙ append-nil (unit_requests bytes) ∙ t.all;
      long = omega (arith, t.long, length-append bytes (c ∷ []), length-append s.rest (c ∷ []));
    }
by_unit bytes c false e t =
    let s = split Whole bytes in
    let unit = s.rest ++ c ∷ [] in
    let place : suc (length bytes) ≡ 0 + (total s.units + length unit) = omega (arith, t.long, length-append s.rest (c ∷ [])) in
    record {
      all = push bytes c ∙ ap (λ (xs : List Request). unit_requests bytes ++ xs) (rw e refl)
          ∙ ap (λ (xs : List Request). xs ++ if_asked (ask_of unit) unit (suc (length bytes))) t.all
          ∙ ap (λ (n : ℕ). units_ask 0 s.units ++ if_asked (ask_of unit) unit n) place ∙ sym (ask-push 0 s.units unit);
      long = omega (arith, t.long, total-push s.units unit, length-append bytes (c ∷ []), length-append s.rest (c ∷ []));
    }

goes : (bytes before : List ℕ) → Told before (split Whole before) → Told (before ++ bytes) (split Whole (before ++ bytes))
goes [] before t = subst (λ (xs : List ℕ). Told xs (split Whole xs)) (sym (append-nil before)) t
goes (c ∷ bytes) before t =
    let one = subst (λ (s : Split). Told (before ++ c ∷ []) s) (sym (split-push before c)) (by_unit before c (is_unfinished Whole ((split Whole before).rest ++ c ∷ [])) refl t) in
    subst (λ (xs : List ℕ). Told xs (split Whole xs)) (append_assoc before (c ∷ []) bytes) (goes bytes (before ++ c ∷ []) one)

nothing : unit_requests [] ≡ units_ask 0 []
unfolding unit_requests units_ask
nothing = refl

pub each_unit : (bytes : List ℕ) → unit_requests bytes ≡ units_ask 0 (split Whole bytes).units
each_unit bytes = (goes bytes [] (rw split_nil (record { all = nothing; long = refl }))).all
