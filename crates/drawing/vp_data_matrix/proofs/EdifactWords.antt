-- EDIFACT as it is counted and written.
use Rattle.std.proofs.Common.{◌≡◌, ℕ, ◌+◌, ◌-◌, ◌<◌, ◌≤◌, List, [], ◌∷◌, ◌++◌, length, take, drop, get_or, refl, sym, ap, ◌∙◌, arith, append_assoc}
use Rattle.std.proofs.lemmas.List.{take_rest}
use Rattle.vp_data_matrix.specs.Ascii.{ascii}
use Rattle.vp_data_matrix.specs.Edifact.{four, fours, edifact}

pub fours_more : (xs : List ℕ) → 6 ≤ length xs → fours xs ≡ four (get_or xs 0 0) (get_or xs 1 0) (get_or xs 2 0) (get_or xs 3 0) ++ fours (take (length xs - 4) (drop 4 xs))
unfolding fours
fours_more [] h = absurd (omega arith)
fours_more (a ∷ []) h = absurd (omega arith)
fours_more (a ∷ b ∷ []) h = absurd (omega arith)
fours_more (a ∷ b ∷ c ∷ []) h = absurd (omega arith)
fours_more (a ∷ b ∷ c ∷ d ∷ []) h = absurd (omega arith)
fours_more (a ∷ b ∷ c ∷ d ∷ e ∷ []) h = absurd (omega arith)
fours_more (a ∷ b ∷ c ∷ d ∷ e ∷ f ∷ rest) h = ap (λ l. four a b c d ++ fours l) (sym (take_rest (a ∷ b ∷ c ∷ d ∷ e ∷ f ∷ rest) 4))

-- the last ones
pub fours_three : (xs : List ℕ) → 3 ≤ length xs → length xs < 6 → fours xs ≡ four (get_or xs 0 0) (get_or xs 1 0) (get_or xs 2 0) 31 ++ ascii (take (length xs - 3) (drop 3 xs))
unfolding fours ascii
fours_three [] h lt = absurd (omega arith)
fours_three (a ∷ []) h lt = absurd (omega arith)
fours_three (a ∷ b ∷ []) h lt = absurd (omega arith)
fours_three (a ∷ b ∷ c ∷ []) h lt = refl
fours_three (a ∷ b ∷ c ∷ d ∷ []) h lt = refl
fours_three (a ∷ b ∷ c ∷ d ∷ e ∷ []) h lt = refl
fours_three (a ∷ b ∷ c ∷ d ∷ e ∷ f ∷ rest) h lt = absurd (omega arith)

pub fours_two : (xs : List ℕ) → 2 ≤ length xs → length xs < 3 → fours xs ≡ four (get_or xs 0 0) (get_or xs 1 0) 31 0
unfolding fours
fours_two [] h lt = absurd (omega arith)
fours_two (a ∷ []) h lt = absurd (omega arith)
fours_two (a ∷ b ∷ []) h lt = refl
fours_two (a ∷ b ∷ c ∷ rest) h lt = absurd (omega arith)

pub fours_few : (xs : List ℕ) → length xs < 2 → fours xs ≡ ascii xs
unfolding fours ascii
fours_few [] h = refl
fours_few (a ∷ []) h = refl
fours_few (a ∷ b ∷ rest) h = absurd (omega arith)

pub edifact_written : (out one new src : List ℕ) → one ≡ out ++ 240 ∷ [] → new ≡ one ++ fours src → new ≡ out ++ edifact src
unfolding edifact
edifact_written out one new src e f = f ∙ ap (λ l. l ++ fours src) e ∙ append_assoc out (240 ∷ []) (fours src)

pub length-edifact : (src : List ℕ) → length (edifact src) ≡ 1 + length (fours src)
unfolding edifact
length-edifact src = omega arith
