-- Where a printer stands.
use Rattle.std.specs.Prelude.{◌≡◌, ℕ, List, [], ◌++◌, Option, None}
use Rattle.vp_dots.specs.declared.fault.Fault.{Fault}
use Rattle.vp_engine.specs.Bytes.{IsPrefix, without_last}
use Rattle.vp_engine.specs.Machines.{Machine, pending_of, MachineStands}
use Rattle.vp_engine.specs.Paper.{history, before_fault, paper, fault}
use Rattle.vp_engine.specs.Setups.{Setup, rules_of}

-- a printer: its machine, what is still to be put out, and the fault that stopped it
pub record Engine : Type 0 where
  pub machine : Machine
  pub pending : List ℕ
  pub stopped : Option Fault

-- the printer of a machine
abbrev pub printer_of : Machine → Option Fault → Engine
printer_of machine stopped = record { machine = machine; pending = pending_of machine; stopped = stopped }

-- The printer took the bytes t and put out the bytes o.
pub record Stands (setup : Setup) (p : Engine) (t o : List ℕ) : Type 0 where
  -- a refused last item is left out
  pub machine : MachineStands p.machine setup t (history (rules_of setup) (before_fault (rules_of setup) t))
  pub stopped : p.stopped ≡ fault (rules_of setup) t
  -- what is pending is the rest of the paper
  pub pending : o ++ p.pending ≡ paper (rules_of setup) t
  -- all that the bytes before the last one print is put out
  pub before : IsPrefix (paper (rules_of setup) (without_last t)) o
  -- there was no fault before the last byte
  pub last : fault (rules_of setup) (without_last t) ≡ None

-- The printer took and put out nothing.
abbrev pub IsFresh : Engine → Type 0
IsFresh p = (setup : Setup) × Stands setup p [] []

abbrev pub StandsSomewhere : Engine → Type 0
StandsSomewhere p = (setup : Setup) × (t : List ℕ) × (o : List ℕ) × Stands setup p t o
