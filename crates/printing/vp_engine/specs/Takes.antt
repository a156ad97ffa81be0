-- What a machine does with a byte, and with a run of bytes, in any language.
use Rattle.std.specs.Prelude.{◌≡◌, ℕ, List, [], ◌∷◌, ◌++◌, reverse, Option, None, Some, Result, Ok, Err}
use Rattle.vp_dots.specs.declared.fault.Fault.{Fault}
use Rattle.vp_engine.specs.Paper.{Rules, printed, newest_refusal}

-- what a reader gives at a byte: just the items beyond those before, or the fault
abbrev pub Gives : {Item : Type 0} → Result (List Item) Fault → List Item → List Item → Option Fault → Type 0
Gives (Ok items) before after fault = (fault ≡ None) × (after ≡ before ++ items)
Gives (Err f) before after fault = fault ≡ Some f

module _ {Item : Type 0} (rules : Rules Item) where
  -- none of these items, which come after those before, is refused
  abbrev pub AreAccepted : List Item → List Item → Type 0
  AreAccepted before [] = Unit {0}
  AreAccepted before (item ∷ items) = (rules.refusal before item ≡ None) × AreAccepted (item ∷ before) items

module _ {Item : Type 0} (rules : Rules Item) (At : List ℕ → List Item → Type 0) (pending : List ℕ) where
  -- what comes of what the reader gave: items are printed, or refused, and then they change nothing
  abbrev pub Comes : List ℕ → List Item → Result (List Item) Fault → Result (Unit {0}) Fault → Type 0
  Comes bytes before (Ok items) (Ok done) =
      AreAccepted rules before items × At bytes (reverse items ++ before)
      × (printed rules (reverse items ++ before) ≡ printed rules before ++ pending)
  Comes bytes before (Ok items) (Err f) =
      (newest_refusal rules (reverse items ++ before) ≡ Some f) × At bytes before × (pending ≡ [])
  Comes bytes before (Err f) result = (result ≡ Err f) × At bytes before × (pending ≡ [])

  -- a byte was taken after these bytes, of which these items are printed
  pub record Takes (bytes : List ℕ) (before : List Item) (byte : ℕ)
      (result : Result (Unit {0}) Fault) : Type 0 where
    pub given : Result (List Item) Fault
    pub gives : Gives given (rules.reading.items bytes) (rules.reading.items (bytes ++ byte ∷ []))
        (rules.reading.fault_of (bytes ++ byte ∷ []))
    pub comes : Comes (bytes ++ byte ∷ []) before given result

module _ {Item : Type 0} (rules : Rules Item) where
  -- a run of bytes was taken, and this text put out, which is all that they print
  pub record TakesRun (At : List ℕ → List Item → Type 0) (bytes : List ℕ) (before : List Item)
      (run text : List ℕ) : Type 0 where
    pub added : List Item
    pub gives : rules.reading.items (bytes ++ run) ≡ rules.reading.items bytes ++ added
    pub known : rules.reading.fault_of (bytes ++ run) ≡ None
    pub accepted : AreAccepted rules before added
    pub prints : printed rules (reverse added ++ before) ≡ printed rules before ++ text
    pub stands : At (bytes ++ run) (reverse added ++ before)
