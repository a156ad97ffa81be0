-- What a step's numbers mean.
use Rattle.std.specs.Prelude.{◌≢◌, ◌≡◌, ◌<◌, ◌≤◌, ◌++◌, ◌↔◌, ℕ, List, [], length, take, drop, Option, Some, None}
use Rattle.vp_dots.specs.declared.fault.Fault.{Fault}
use Rattle.vp_engine.specs.Answers.{IsMore, IsRoom, IsStopped}
use Rattle.vp_engine.specs.Memory.{memory_held}
use Rattle.vp_engine.specs.Paper.{IsOfByte, fault}
use Rattle.vp_engine.specs.Setups.{Setup, rules_of}
use Rattle.vp_engine.specs.Stands.{Engine, Stands}
use Rattle.vp_engine.specs.declared.printer.State.{State}
use Rattle.vp_engine.specs.declared.printer.State.TheVariants.{More, Room, Stopped}
use Rattle.vp_engine.specs.declared.printer.Step.{Step}
use Rattle.vp_calls.specs.Faults.{no_fault, in_c}
use Rattle.vp_calls.specs.declared.answer.TheConstants.{OK, NO_PRINTER}
use Rattle.vp_calls.specs.declared.fault.FaultOfC.{FaultOfC}
use Rattle.vp_calls.specs.declared.progress.Progress.{Progress}
use Rattle.vp_calls.specs.declared.progress.TheConstants.{MORE, ROOM, STOPPED}

abbrev pub state_of : State → ℕ
state_of More = MORE
state_of Room = ROOM
state_of (Stopped f) = STOPPED

abbrev pub fault_of : State → FaultOfC
fault_of More = no_fault
fault_of Room = no_fault
fault_of (Stopped f) = in_c f

abbrev pub progress_of : Step → Progress
progress_of step = record {
  taken = step.taken;
  put = step.put;
  state = state_of step.state;
  fault = fault_of step.state;
}

abbrev pub nothing_done : Progress
nothing_done = record { taken = 0; put = 0; state = MORE; fault = no_fault }

-- it stopped with this fault
pub record Stops (f : Fault) (done : Progress) : Type 0 where
  pub state : done.state ≡ STOPPED
  pub fault : done.fault ≡ in_c f

-- A printer took a front of the input and put out a front of the output: all that the engine's step says, in
-- these numbers.
pub record IsStep (old new : Engine) (input before after : List ℕ) (done : Progress) : Type 0 where
  pub taken : done.taken ≤ length input
  pub put : done.put ≤ length before
  pub rest : drop done.put after ≡ drop done.put before
  pub full : 0 < length new.pending → done.put ≡ length before
  pub drains : done.taken ≡ 0 → old.pending ≡ take done.put after ++ new.pending
  pub moves : 0 < length input → old.pending ≡ [] → old.stopped ≡ None → 0 < done.taken
  pub stands : (setup : Setup) (t o : List ℕ) → Stands setup old t o
      → Stands setup new (t ++ take done.taken input) (o ++ take done.put after)
  pub more : done.state ≡ MORE → (setup : Setup) (t o : List ℕ) → Stands setup old t o
      → IsMore setup input done.taken (t ++ take done.taken input) (o ++ take done.put after)
  pub room : done.state ≡ ROOM → (setup : Setup) (t o : List ℕ) → Stands setup old t o
      → IsRoom setup after done.put (t ++ take done.taken input) (o ++ take done.put after)
  pub stopped : (f : Fault) (setup : Setup) (t o : List ℕ) → Stands setup old t o
      → (Stops f done ↔ (fault (rules_of setup) (t ++ take done.taken input) ≡ Some f))
  pub stopped_at : (f : Fault) (setup : Setup) (t o : List ℕ) → Stands setup old t o → Stops f done
      → IsStopped setup f (t ++ take done.taken input) (o ++ take done.put after)
  pub no_fault_else : done.state ≢ STOPPED → done.fault ≡ no_fault
  pub nothing_after : (f : Fault) → old.stopped ≡ Some f
      → (done.taken ≡ 0) × (done.put ≡ 0) × Stops f done
  pub idle : done.state ≡ MORE → new.pending ≡ []
  pub waits : done.state ≡ ROOM → 0 < length new.pending
  pub byte : (f : Fault) → Stops f done → IsOfByte f
  pub memory : memory_held new ≡ memory_held old

-- behind a handle: nothing is done where there is no printer
abbrev pub IsStepOf : Option Engine → Option Engine → List ℕ → List ℕ → List ℕ → Progress → ℕ → Type 0
IsStepOf None new input before after done answer =
    (answer ≡ NO_PRINTER) × (new ≡ None) × (after ≡ before) × (done ≡ nothing_done)
IsStepOf (Some old) new input before after done answer =
    (answer ≡ OK) × (p : Engine) × (new ≡ Some p) × IsStep old p input before after done
