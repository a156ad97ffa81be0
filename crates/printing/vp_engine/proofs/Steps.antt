-- Where a printer stands after one byte more, and after it put out some.
use Rattle.std.proofs.Common.{◌≡◌, ℕ, ◌<◌, List, [], ◌∷◌, ◌++◌, length, take, reverse, append_assoc, Option, Some, None, IsSome, MatchResult, Result, Ok, Err, sym, ap, subst, ◌∙◌, arith, length-append, length-drop, min, drop}
use Rattle.std.proofs.lemmas.Grind.{common_steps}
use Rattle.std.specs.Option.{option_or}
use Rattle.std.specs.Result.{result_err}
use Rattle.std.proofs.lemmas.List.{reverse-append, append-nil, take_at, drop_at, length-take-le, take-append-drop}
use Rattle.vp_dots.specs.declared.fault.Fault.{Fault}
use Rattle.vp_engine.specs.Setups.{Setup}
use Rattle.vp_engine.specs.Paper.{Rules, Reads, history, printed, newest_refusal, fault_at, fault, first_fault, before_fault, sound, paper, fault_at_end, missing}
use Rattle.vp_engine.specs.Machines.{MachineStands}
use Rattle.vp_engine.specs.Takes.{AreAccepted, Takes, Gives, Comes}
use Rattle.vp_engine.specs.Setups.{Item, rules_of}
use Rattle.vp_engine.specs.Stands.{Engine, Stands}
use Rattle.vp_engine.proofs.Runs.{newest_of}
use Rattle.vp_engine.proofs.Faults.{fault_more, before_whole, before_stop, newest_accepted, paper_is, without_last_more, last_prints_nothing, ends, all_known}

module _ {Item : Type 0} (rules : Rules Item) (At : List ℕ → List Item → Type 0) (pending : List ℕ) where
  -- what a byte comes to on paper
  pub record Adds (t : List ℕ) (b : ℕ) (f : Option Fault) : Type 0 where
    pub fault_is : fault rules (t ++ b ∷ []) ≡ f
    pub stands : At (t ++ b ∷ []) (history rules (before_fault rules (t ++ b ∷ [])))
    pub adds : paper rules t ++ pending ≡ paper rules (t ++ b ∷ [])

  -- the fault at a byte, where there was none before
  fault_next : (t : List ℕ) (b : ℕ) → fault rules t ≡ None → fault rules (t ++ b ∷ []) ≡ fault_at rules (t ++ b ∷ [])
  fault_next t b none = fault_more rules t b ∙ ap (λ f. option_or f (fault_at rules (t ++ b ∷ []))) none

  -- where the items before the fault are h then
  adds_to : (t : List ℕ) (b : ℕ) (f : Option Fault) (h : List Item) → fault rules (t ++ b ∷ []) ≡ f → history rules (before_fault rules (t ++ b ∷ [])) ≡ h → At (t ++ b ∷ []) h →
      printed rules (history rules (before_fault rules t)) ++ pending ≡ printed rules h → Adds t b f
  adds_to t b f h fa hi k pr = grind (arith, paper_is)

  nothing : (xs : List ℕ) → pending ≡ [] → xs ++ pending ≡ xs
  nothing xs e = ap (λ x. xs ++ x) e ∙ append-nil xs

  -- a byte that makes a fault
  stops : (t : List ℕ) (b : ℕ) (f : Fault) → fault rules (t ++ b ∷ []) ≡ Some f → At (t ++ b ∷ []) (history rules (before_fault rules t)) → pending ≡ [] → Adds t b (Some f)
  stops t b f fa at e = adds_to t b (Some f) (history rules (before_fault rules t)) fa (ap (history rules) (before_stop rules t b f fa)) at (nothing _ e)

  module _ (reads : Reads rules.reading) (t : List ℕ) (b : ℕ) (none : fault rules t ≡ None) where
    -- the items, where the byte gives these
    items_next : (items : List Item) → rules.reading.items (t ++ b ∷ []) ≡ rules.reading.items t ++ items →
        history rules (t ++ b ∷ []) ≡ reverse items ++ history rules (before_fault rules t)
    items_next items e = grind (arith, reverse-append, before_whole)

    newest_before : newest_refusal rules (history rules (before_fault rules t)) ≡ None
    newest_before = grind (arith, before_whole, newest_accepted)

    -- a known byte
    known : (refused : Option Fault) → rules.reading.fault_of (t ++ b ∷ []) ≡ None → newest_refusal rules (history rules (t ++ b ∷ [])) ≡ refused → fault rules (t ++ b ∷ []) ≡ refused
    known refused k e = fault_next t b none ∙ ap (λ f. option_or f (newest_refusal rules (history rules (t ++ b ∷ [])))) k ∙ e

    pub adds_by : (given : Result (List Item) Fault) (result : Result (Unit {0}) Fault) →
        Gives given (rules.reading.items t) (rules.reading.items (t ++ b ∷ [])) (rules.reading.fault_of (t ++ b ∷ [])) →
        Comes rules At pending (t ++ b ∷ []) (history rules (before_fault rules t)) given result → Adds t b (result_err result)
    adds_by (Ok items) (Ok done) g c =
        let hi = items_next items g.1 in let h = history rules (before_fault rules t) in
        let all = newest_of rules items [] h (subst (AreAccepted rules h) (sym (append-nil items)) c.0) newest_before in
        let fa = known None g.0 (ap (newest_refusal rules) hi ∙ all) in
        adds_to t b None (reverse items ++ h) fa (ap (history rules) (before_whole rules (t ++ b ∷ []) fa) ∙ hi) c.1 (sym c.2)
    adds_by (Ok items) (Err f) g c =
        stops t b f (known (Some f) g.0 (ap (newest_refusal rules) (items_next items g.1) ∙ c.0)) c.1 c.2
    adds_by (Err f) result g c = subst (Adds t b) (sym (ap result_err c.0))
        (stops t b f (fault_next t b none ∙ ap (λ x. option_or x (newest_refusal rules (history rules (t ++ b ∷ [])))) g) c.1 c.2)

module _ (setup : Setup) where
  abbrev rules : Rules (Item setup)
  rules = rules_of setup

  -- one byte more
  pub stands_more : (p q : Engine) (t o : List ℕ) (b : ℕ) (result : Result (Unit {0}) Fault) → Reads rules.reading → Stands setup p t o → p.pending ≡ [] → p.stopped ≡ None →
      Takes rules (MachineStands q.machine setup) q.pending t (history rules (before_fault rules t)) b result → q.stopped ≡ result_err result → Stands setup q (t ++ b ∷ []) o
  stands_more p q t o b result reads s idle run takes st = grind (arith, adds_by, without_last_more, append-nil)

  -- bytes that are put out
  pub stands_put : (p q : Engine) (t o x : List ℕ) → Stands setup p t o → MachineStands q.machine setup t (history rules (before_fault rules t)) → q.stopped ≡ p.stopped → p.pending ≡ x ++ q.pending → Stands setup q t (o ++ x)
  stands_put p q t o x s h st pe = grind (arith, append_assoc)

  -- a new printer
  pub stands_first : (p : Engine) → Reads rules.reading → MachineStands p.machine setup [] [] → p.stopped ≡ None → p.pending ≡ [] → Stands setup p [] []
  unfolding fault first_fault before_fault sound paper
  stands_first p reads h st pe = grind arith

  empty_of : (xs : List ℕ) → length xs ≡ 0 → xs ≡ []
  empty_of xs e = grind (arith, common_steps)

  nothing_left : (p x o rest : List ℕ) → o ++ x ≡ p → p ++ rest ≡ o → x ≡ []
  nothing_left p x o rest e f = empty_of x (omega (arith, ap length e, ap length f, length-append o x, length-append p rest))

  -- a printer that has stopped has nothing pending
  pub stopped_idle : (p : Engine) (t o : List ℕ) → Stands setup p t o → IsSome p.stopped → p.pending ≡ []
  stopped_idle p t o s h = grind (arith, nothing_left, last_prints_nothing)

  -- where a printer that has not stopped ends
  pub ends_at : (p : Engine) (t o : List ℕ) (answer : Option Fault) → Reads rules.reading → Stands setup p t o → ((f : Fault) → p.stopped ≡ Some f → ⊥) →
      ((before : List (Item setup)) → MachineStands p.machine setup t before → rules.reading.fault_of t ≡ None → answer ≡ missing (rules.reading.is_between t) (rules.is_at_rest before)) →
      fault_at_end rules t ≡ answer
  ends_at p t o answer reads s run is = grind (arith, ends, all_known)

-- what ending at these bytes answers, as an option
pub answer_of : (r : Result (Unit {0}) Fault) (f : Option Fault) → MatchResult r (λ _. f ≡ None) (λ g. f ≡ Some g) → result_err r ≡ f
answer_of r f h = grind arith

-- what is put out, and what stays
pub put_text : (pending left old out : List ℕ) (n : ℕ) → n ≡ min (length pending) (length old) → out ≡ take n pending ++ drop n old → left ≡ drop n pending → pending ≡ take n out ++ left
put_text pending left old out n count e rest = grind (arith, take_at, length-take-le, take-append-drop)

pub put_rest : (pending old out : List ℕ) (n : ℕ) → n ≡ min (length pending) (length old) → out ≡ take n pending ++ drop n old → drop n out ≡ drop n old
put_rest pending old out n count e = ap (drop n) e ∙ drop_at (take n pending) (drop n old) n (length-take-le n pending (omega (arith, count)))

pub put_full : (pending left old : List ℕ) (n : ℕ) → n ≡ min (length pending) (length old) → left ≡ drop n pending → 0 < length left → n ≡ length old
put_full pending left old n count rest some = omega (arith, count, ap length rest, length-drop n pending)
