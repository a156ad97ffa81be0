-- What a printer behind a handle is asked, and tells, and how it begins anew.
use Rattle.std.specs.Prelude.{◌≡◌, ◌<◌, ◌↔◌, ℕ, List, [], length, Option, Some, None}
use Rattle.vp_engine.specs.Answers.{IsBounded}
use Rattle.vp_engine.specs.Memory.{memory_held, memory_of}
use Rattle.vp_engine.specs.Paper.{fault_at_end, held_after}
use Rattle.vp_engine.specs.Setups.{Setup, rules_of}
use Rattle.vp_engine.specs.Stands.{Engine, Stands}
use Rattle.vp_engine.specs.Work.{work_told}
use Rattle.vp_engine.specs.declared.held.Held.{Held}
use Rattle.vp_calls.specs.Faults.{no_fault, maybe_in_c}
use Rattle.vp_calls.specs.Helds.{held_in_c, nothing_in_c}
use Rattle.vp_calls.specs.declared.answer.TheConstants.{OK, NO_PRINTER, PENDING}
use Rattle.vp_calls.specs.declared.fault.FaultOfC.{FaultOfC}
use Rattle.vp_calls.specs.declared.held.HeldNow.{HeldNow}

-- wherever a printer stood, it stands as one that took and put out nothing, with the memory that it held
pub record IsBegunAnew (old new : Engine) : Type 0 where
  pub stands : (setup : Setup) (t o : List ℕ) → Stands setup old t o → Stands setup new [] []
  pub idle : new.pending ≡ []
  pub running : new.stopped ≡ None
  pub memory : memory_held new ≡ memory_held old
  pub work : work_told new ≡ 0

-- behind a handle
abbrev pub IsReset : Option Engine → Option Engine → ℕ → Type 0
IsReset None new answer = (answer ≡ NO_PRINTER) × (new ≡ None)
IsReset (Some old) new answer = (answer ≡ OK) × (p : Engine) × (new ≡ Some p) × IsBegunAnew old p

-- PENDING where paper is still to be put out, else OK
pub record IsOfPending (p : Engine) (answer : ℕ) : Type 0 where
  pub pending : (answer ≡ PENDING) ↔ (0 < length p.pending)
  pub idle : (answer ≡ OK) ↔ (p.pending ≡ [])

abbrev pub IsPendingAnswer : Option Engine → ℕ → Type 0
IsPendingAnswer None answer = answer ≡ NO_PRINTER
IsPendingAnswer (Some p) answer = IsOfPending p answer

-- where nothing is pending the fault is that of the bytes t, or of ending there
pub record IsEnd (p : Engine) (fault : FaultOfC) (answer : ℕ) : Type 0 where
  pub answered : IsOfPending p answer
  pub ended : answer ≡ OK → (setup : Setup) (t o : List ℕ) → Stands setup p t o
      → fault ≡ maybe_in_c (fault_at_end (rules_of setup) t)
  pub none_while_pending : answer ≡ PENDING → fault ≡ no_fault

abbrev pub IsFinished : Option Engine → FaultOfC → ℕ → Type 0
IsFinished None fault answer = (answer ≡ NO_PRINTER) × (fault ≡ no_fault)
IsFinished (Some p) fault answer = IsEnd p fault answer

-- what is held where the bytes t were taken and the bytes o put out, which is bounded
pub record IsOfHeld (p : Engine) (told : HeldNow) : Type 0 where
  pub held : Held
  pub told_is : told ≡ held_in_c held
  pub value : (setup : Setup) (t o : List ℕ) → Stands setup p t o → held ≡ held_after (rules_of setup) t o
  pub most : IsBounded held

abbrev pub IsHeld : Option Engine → HeldNow → ℕ → Type 0
IsHeld None told answer = (answer ≡ NO_PRINTER) × (told ≡ nothing_in_c)
IsHeld (Some p) told answer = (answer ≡ OK) × IsOfHeld p told

-- the bytes that are held on the heap, which are those that language and sheets say
pub record IsOfMemory (p : Engine) (bytes : ℕ) : Type 0 where
  pub value : bytes ≡ memory_held p
  pub made_with : (setup : Setup) (t o : List ℕ) → Stands setup p t o → bytes ≡ memory_of setup

abbrev pub IsMemory : Option Engine → ℕ → ℕ → Type 0
IsMemory None bytes answer = (answer ≡ NO_PRINTER) × (bytes ≡ 0)
IsMemory (Some p) bytes answer = (answer ≡ OK) × IsOfMemory p bytes
