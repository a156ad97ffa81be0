-- What comes of an item, by what is known of the answer; and what is missing at the end.
use Rattle.std.proofs.Common.{◌≡◌, ℕ, Bool, true, List, [], ◌∷◌, ◌++◌, Option, None, Some, Result, Ok, OnOk, OnErr, MatchResult, IsTrue, ◌↔◌, sym, ap, ◌∙◌, arith}
use Rattle.std.proofs.lemmas.List.{append-nil}
use Rattle.vp_dots.specs.declared.fault.Fault.{Fault}
use Rattle.vp_engine.specs.Paper.{Rules, printed, missing}
use Rattle.vp_engine.specs.Setups.{is_empty}
use Rattle.vp_engine.specs.Takes.{Comes}

pub on_ok : {T E A B : Type 0} (r : Result T E) → OnOk r A → (A → B) → OnOk r B
on_ok r a f = grind arith

pub on_err : {T E A B : Type 0} (r : Result T E) → OnErr r A → (A → B) → OnErr r B
on_err r a f = grind arith

module _ {Item : Type 0} (rules : Rules Item) (pending : List ℕ) (before : List Item) where
  pub none_printed : pending ≡ [] → printed rules before ≡ printed rules before ++ pending
  none_printed e = sym (ap (λ x. printed rules before ++ x) e ∙ append-nil (printed rules before))

-- an item that is printed, or refused, by where the reader and what it drives then stand
pub comes : {Item : Type 0} (rules : Rules Item) (Reads : List ℕ → Type 0) (Drives : List Item → Type 0) (pending bytes : List ℕ) (before : List Item) (item : Item)
    (result : Result (Unit {0}) Fault) → Reads bytes → MatchResult result (λ _. rules.refusal before item ≡ None) (λ f. rules.refusal before item ≡ Some f) →
    OnOk result (Drives (item ∷ before)) → OnOk result (pending ≡ rules.prints before item) → OnErr result (Drives before × (pending ≡ [])) →
    Comes rules (λ bytes before. Reads bytes × Drives before) pending bytes before (Ok (item ∷ [])) result
comes h Reads Drives pending bytes before item result reads refusal stands prints err = grind arith

pub missing_where : (between at_rest is_between at : Bool) → between ≡ is_between → IsTrue at_rest ↔ (at ≡ true) → missing between at_rest ≡ missing is_between at
missing_where between at_rest is_between at r d = grind arith

pub missing_is : (between at_rest at : Bool) (rest : List ℕ) (fault : Option Fault) → fault ≡ None →
    IsTrue between ↔ ((rest ≡ []) × (fault ≡ None)) → IsTrue at_rest ↔ (at ≡ true) → missing between at_rest ≡ missing (is_empty rest) at
missing_is between at_rest h rest fault none r d = grind arith
