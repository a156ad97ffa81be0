-- Digits in their sets, one after another, and values behind separators.
use Rattle.std.proofs.Common.{◌≡◌, ℕ, ◌+◌, ◌<◌, ◌≤◌, min, List, [], ◌∷◌, ◌++◌, length, get_or, drop, refl, sym, ap, ◌∙◌, append_assoc, arith}
use Rattle.std.specs.List.{flat_map}
use Rattle.std.proofs.lemmas.List.{drop_more, length-drop, append-nil}
use Rattle.vp_bars.specs.Upc.{in_set, in_sets, separator}
use Rattle.vp_bars.specs.AddOn.{behind_separator}

-- one more digit
pub sets_more : (sets ds done all : List ℕ) (i : ℕ) → i < length sets → i < length ds → all ≡ done ++ in_sets (drop i sets) (drop i ds)
    → all ≡ (done ++ in_set (get_or sets i 0) (get_or ds i 0) ∷ []) ++ in_sets (drop (i + 1) sets) (drop (i + 1) ds)
sets_more sets ds done all i h k e = e ∙ ap (λ xs. done ++ in_sets xs (drop i ds)) (drop_more sets i 0 h)
    ∙ ap (λ xs. done ++ in_sets (get_or sets i 0 ∷ drop (i + 1) sets) xs) (drop_more ds i 0 k)
    ∙ sym (append_assoc done (in_set (get_or sets i 0) (get_or ds i 0) ∷ []) (in_sets (drop (i + 1) sets) (drop (i + 1) ds)))

none_left : (sets ds : List ℕ) → min (length sets) (length ds) ≤ 0 → in_sets sets ds ≡ []
none_left [] ds h = refl
none_left (s ∷ sets) [] h = refl
none_left (s ∷ sets) (d ∷ ds) h = absurd (omega arith)

-- all digits
pub sets_done : (sets ds done all : List ℕ) (i : ℕ) → min (length sets) (length ds) ≤ i → all ≡ done ++ in_sets (drop i sets) (drop i ds) → all ≡ done
sets_done sets ds done all i h e = e ∙ ap (λ xs. done ++ xs) (none_left (drop i sets) (drop i ds) (omega (arith, length-drop i sets, length-drop i ds))) ∙ append-nil done

-- one more value behind a separator
pub separated_more : (vs done all : List ℕ) (i : ℕ) → i < length vs → all ≡ done ++ flat_map behind_separator (drop i vs)
    → all ≡ ((done ++ separator ∷ []) ++ get_or vs i 0 ∷ []) ++ flat_map behind_separator (drop (i + 1) vs)
separated_more vs done all i h e = e ∙ ap (λ xs. done ++ flat_map behind_separator xs) (drop_more vs i 0 h)
    ∙ sym (append_assoc (done ++ separator ∷ []) (get_or vs i 0 ∷ []) (flat_map behind_separator (drop (i + 1) vs))
    ∙ append_assoc done (separator ∷ []) (get_or vs i 0 ∷ flat_map behind_separator (drop (i + 1) vs)))
