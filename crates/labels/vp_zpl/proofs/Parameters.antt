-- Parameters, by one byte more and at their end.
use Rattle.std.proofs.lemmas.Grind.{common_steps}
use Rattle.std.proofs.Common.{◌≡◌, ℕ, ◌<◌, ◌≤◌, true, false, cond, zero, suc, List, [], ◌∷◌, ◌++◌, length, take, map, refl, ap, ◌∙◌, arith, nat_le}
use Rattle.std.proofs.lemmas.Bool.Decides.{nat_tests}
use Rattle.std.proofs.lemmas.List.{map_push, take_all, length_push, length-take, length-map}
use Rattle.vp_zpl.specs.Spelling.{is_comma, is_blank, ended, last, behind_commas, parameters, kept, kept_of, Kept}
use Rattle.vp_zpl.specs.Commands.{is_whole, head}
use Rattle.vp_zpl.proofs.Heads.{ended-push, behind_later}

-- the last parameter behind a byte more
abbrev pub after : ℕ → List ℕ → List ℕ
after c p = cond (is_comma c) [] (cond (is_blank c) p (p ++ c ∷ []))

pub last-push : (p args : List ℕ) (c : ℕ) → last p (args ++ c ∷ []) ≡ after c (last p args)
last-push p [] c = refl
last-push p (a ∷ args) c = grind (arith, (λ (q : List ℕ). last-push q args c))

-- the first n, with one more behind the first n
pub take_front : {X : Type 0} (n : ℕ) (xs : List X) (y : X) → take n (xs ++ y ∷ []) ≡ take n (take n xs ++ y ∷ [])
take_front zero xs y = refl
take_front (suc n) [] y = refl
take_front (suc n) (x ∷ xs) y = ap (λ l. x ∷ l) (take_front n xs y)

pub keeps : (ps : List (List ℕ)) (p : List ℕ) → kept_of (ps ++ p ∷ []) ≡ take 8 (kept_of ps ++ kept p ∷ [])
unfolding kept_of
keeps ps p = ap (take 8) (map_push kept ps p) ∙ take_front 8 (map kept ps) (kept p)

pub keeps_at_end : (args : List ℕ) → kept_of (parameters args) ≡ take 8 (kept_of (ended [] args) ++ kept (last [] args) ∷ [])
unfolding parameters
keeps_at_end args = keeps (ended [] args) (last [] args)

-- a byte that is no comma
pub same_ended : (args : List ℕ) (c : ℕ) → is_comma c ≡ false → ended [] (args ++ c ∷ []) ≡ ended [] args
same_ended args c e = grind (arith, common_steps, ended-push)

pub same_whole : (args : List ℕ) (c : ℕ) → is_comma c ≡ false → is_whole (args ++ c ∷ []) ≡ is_whole args
unfolding is_whole
same_whole args c e = ap (λ ps. nat_le 4 (length ps)) (same_ended args c e)

pub comma_ended : (args : List ℕ) → ended [] (args ++ 0x2C ∷ []) ≡ ended [] args ++ last [] args ∷ []
comma_ended args = ended-push [] args 0x2C

pub comma_last : (args : List ℕ) → last [] (args ++ 0x2C ∷ []) ≡ []
comma_last args = last-push [] args 0x2C

-- a head is whole at its fourth comma
pub record Completes (args : List ℕ) (sent : List Kept) : Type 0 where
  pub whole : is_whole (args ++ 0x2C ∷ []) ≡ true
  pub head_is : head (args ++ 0x2C ∷ []) ≡ sent
  pub data_is : behind_commas 4 (args ++ 0x2C ∷ []) ≡ []

pub few_kept : (ps : List (List ℕ)) → length (kept_of ps) < 4 → length ps < 4
unfolding kept_of
few_kept ps h = omega (arith, length-map ps kept, length-take 8 (map kept ps))

pub not_whole_is : (args : List ℕ) → is_whole args ≡ false → length (ended [] args) < 4
unfolding is_whole
not_whole_is args w = grind (arith, nat_tests)

pub few_whole : (args : List ℕ) → length (kept_of (ended [] args)) < 4 → is_whole args ≡ false
unfolding is_whole
few_whole args h = let l = few_kept (ended [] args) h in grind (arith, nat_tests)

pub completes : (args : List ℕ) (sent : List Kept) → is_whole args ≡ false → sent ≡ kept_of (ended [] (args ++ 0x2C ∷ [])) → 4 ≤ length sent → Completes args sent
unfolding is_whole head kept_of
completes args sent w e l =
    let later = behind_later 4 [] args (0x2C ∷ []) in
    grind (arith, common_steps, not_whole_is, comma_ended, length_push, take_all, length-map, later)
