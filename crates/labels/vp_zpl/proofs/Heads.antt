-- Parameters and the data of ^GF, by one byte more.
use Rattle.std.proofs.Common.{◌≡◌, ℕ, ◌-◌, ◌<◌, ◌≤◌, true, false, cond, List, [], ◌∷◌, ◌++◌, length, refl, arith, length-append}
use Rattle.std.proofs.lemmas.Bool.Decides.{nat_tests}
use Rattle.std.proofs.lemmas.List.{map-append, take-append-le, take_all, length_push, length-map}
use Rattle.std.proofs.lemmas.List.Elements.{filter-append}
use Rattle.vp_zpl.specs.Spelling.{is_comma, ended, last, behind_commas}
use Rattle.vp_zpl.specs.Commands.{is_b, count_of, head, is_whole}
use Rattle.vp_zpl.specs.Items.{picture, is_code}

abbrev pub tail : ℕ → List ℕ → List (List ℕ)
tail c p = cond (is_comma c) (p ∷ []) []

pub ended-push : (p args : List ℕ) (c : ℕ) → ended p (args ++ c ∷ []) ≡ ended p args ++ tail c (last p args)
ended-push p [] c = grind arith
ended-push p (a ∷ args) c = grind (arith, (λ (q : List ℕ). ended-push q args c))

-- behind a whole head, more bytes are more data
pub behind-push : (n : ℕ) (p args more : List ℕ) → n ≤ length (ended p args) → behind_commas n (args ++ more) ≡ behind_commas n args ++ more
behind-push n p [] [] h = refl
behind-push n p [] (m ∷ more) h = grind (arith, nat_tests)
behind-push n p (a ∷ args) more h =
    let other = behind-push n (p ++ a ∷ []) args more in
    grind (arith, nat_tests, behind-push (n - 1) [] args more, behind-push n p args more, other)

-- where commas are missing, it is begun later
pub behind_later : (n : ℕ) (p args more : List ℕ) → length (ended p args) < n
    → behind_commas n (args ++ more) ≡ behind_commas (n - length (ended p args)) more
behind_later n p [] more h = grind arith
behind_later n p (a ∷ args) more h =
    let other = behind_later n (p ++ a ∷ []) args more in
    grind (arith, nat_tests, behind_later (n - 1) [] args more, behind_later n p args more, other)

-- what holds of a whole head still holds
pub record Still (args : List ℕ) (c : ℕ) : Type 0 where
  pub whole : is_whole (args ++ c ∷ []) ≡ true
  pub head_is : head (args ++ c ∷ []) ≡ head args
  pub data_is : behind_commas 4 (args ++ c ∷ []) ≡ behind_commas 4 args ++ c ∷ []

pub still : (args : List ℕ) (c : ℕ) → is_whole args ≡ true → Still args c
unfolding is_whole head
still args c w = grind (arith, nat_tests, length-append, ended-push, map-append, take-append-le, length-map, behind-push)

pub graphic_same : (args : List ℕ) (c : ℕ) → is_whole args ≡ true → is_b (head args) ≡ true → count_of (head args) ≤ length (behind_commas 4 args)
    → picture (args ++ c ∷ []) ≡ picture args
unfolding picture
graphic_same args c w b full = grind (arith, still args c w, take-append-le)

pub binary_more : (args : List ℕ) (c : ℕ) → is_whole args ≡ true → is_b (head args) ≡ true → length (behind_commas 4 args) < count_of (head args)
    → picture (args ++ c ∷ []) ≡ picture args ++ c ∷ []
unfolding picture
binary_more args c w b few = grind (arith, still args c w, take_all, length_push)

pub code_more : (args : List ℕ) (c : ℕ) (more : List ℕ) → is_whole args ≡ true → is_b (head args) ≡ false → cond (is_code c) (c ∷ []) [] ≡ more
    → picture (args ++ c ∷ []) ≡ picture args ++ more
unfolding picture
code_more args c more w b e = grind (arith, still args c w, filter-append)
