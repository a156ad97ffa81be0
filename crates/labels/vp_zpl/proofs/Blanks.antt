-- A blank among parameters.
use Rattle.std.proofs.Common.{◌≡◌, ℕ, false, List, [], ◌∷◌, ◌++◌, take, map, refl, ap, ◌∙◌, arith}
use Rattle.std.proofs.lemmas.Bool.Decides.{nat_tests}
use Rattle.vp_zpl.specs.Spelling.{ended, last, behind_commas, parameters, kept}
use Rattle.vp_zpl.specs.Commands.{is_whole, head}
use Rattle.vp_zpl.proofs.Heads.{behind_later}
use Rattle.vp_zpl.proofs.Parameters.{not_whole_is}

pub ended_blank : (p args more : List ℕ) → ended p (args ++ 0x20 ∷ more) ≡ ended p (args ++ more)
ended_blank p [] more = refl
ended_blank p (a ∷ args) more = grind (arith, (λ (q : List ℕ). ended_blank q args more), ended_blank [] args more)

pub last_blank : (p args more : List ℕ) → last p (args ++ 0x20 ∷ more) ≡ last p (args ++ more)
last_blank p [] more = refl
last_blank p (a ∷ args) more = grind (arith, (λ (q : List ℕ). last_blank q args more), last_blank [] args more)

pub parameters_blank : (args more : List ℕ) → parameters (args ++ 0x20 ∷ more) ≡ parameters (args ++ more)
unfolding parameters
parameters_blank args more = ap (λ e. e ++ last [] (args ++ 0x20 ∷ more) ∷ []) (ended_blank [] args more) ∙ ap (λ l. ended [] (args ++ more) ++ l ∷ []) (last_blank [] args more)

pub head_blank : (args more : List ℕ) → head (args ++ 0x20 ∷ more) ≡ head (args ++ more)
unfolding head
head_blank args more = ap (λ e. take 4 (map kept e)) (ended_blank [] args more)

pub data_blank : (args more : List ℕ) → is_whole args ≡ false → behind_commas 4 (args ++ 0x20 ∷ more) ≡ behind_commas 4 (args ++ more)
data_blank args more w = grind (arith, nat_tests, not_whole_is, behind_later 4 [] args)
