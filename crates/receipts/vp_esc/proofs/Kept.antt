-- Where the reader stands says nothing of the item that it gave last.
use Rattle.std.proofs.Common.{◌≡◌, ℕ, Option, Some, Result, Ok, Err, List, ◌∷◌, ap, arith}
use Rattle.std.specs.Borrow.{Bor}
use Rattle.vp_dots.specs.declared.fault.Fault.{Fault}
use Rattle.arrayvec.specs.ArrayVec.{ArrayVec}
use Rattle.vp_esc.specs.declared.reading.Reading.{Reading}
use Rattle.vp_esc.specs.declared.item.EscItem.{EscItem}
use Rattle.vp_esc.specs.declared.item.EscItem.TheVariants as items
use Rattle.vp_esc.specs.declared.item.Lead.{Lead}
use Rattle.vp_esc.specs.declared.event.Event.{Event}
use Rattle.vp_esc.specs.declared.event.Event.TheVariants.{Given}
use Rattle.vp_esc.specs.declared.reader.EscReader.{EscReader}
use Rattle.vp_esc.specs.Units.{unused}
use Rattle.vp_esc.specs.Shown.{shown, shown_loan}
use Rattle.vp_esc.specs.Reader.{Advances, Lands}

-- the reader with this item
abbrev pub giving : EscReader → EscItem → EscReader
giving r item = record r { item = item }

pub advances_giving : (r : EscReader) (item : EscItem) {reading : Reading} {result : Result (Option EscItem) Fault} {rest : List ℕ} {c : ℕ}
    → Advances reading result rest c r → Advances reading result rest c (giving r item)
advances_giving r item a = record { reads = a.reads; gives = a.gives; stands = (grind arith) }

pub lands_giving : (r : EscReader) (item : EscItem) {reading : Reading} {given : Option EscItem} {front : List ℕ}
    → Lands reading given front r → Lands reading given front (giving r item)
lands_giving r item l = record { reads = l.reads; fault = l.fault; gives = l.gives; stands = (grind arith) }

pub lands_item : (r : EscReader) (item given : EscItem) {reading : Reading} {front : List ℕ} → item ≡ given
    → Lands reading (Some given) front r → Lands reading (Some item) front (giving r item)
lands_item r item given {reading} {front} e l = grind (arith, lands_giving)

-- a command without effect, by its bytes
pub without_effect : (lead : Lead) (bytes : ArrayVec ℕ) (name : ℕ) (args : List ℕ) → bytes.items ≡ name ∷ args
    → items.WithoutEffect lead bytes ≡ unused lead name args
without_effect lead bytes name args e = ap (λ (xs : List ℕ). items.WithoutEffect lead (record { items = xs })) e

-- once it was given
pub advances_given : (r new : EscReader) (item : EscItem) (event : Event) {reading : Reading} {rest : List ℕ} {c : ℕ} → event ≡ Given
    → new ≡ giving r item → Advances reading (Ok (Some item)) rest c r → Advances reading (Ok (shown event new.item)) rest c new
advances_given r new item event {reading} {rest} {c} e n a = grind (arith, advances_giving)

pub lands_given : (r new : EscReader) (item : EscItem) (event : Event) {reading : Reading} {front : List ℕ} → event ≡ Given
    → new ≡ giving r item → Lands reading (Some item) front r → Lands reading (shown event new.item) front new
lands_given r new item event {reading} {front} e n l = grind (arith, lands_giving)

-- a fault that is answered, of what is lent
pub lent_fault : (loan : Result (Option (Bor EscItem)) Fault) (f : Fault) → shown_loan loan ≡ Err f → loan ≡ Err f
lent_fault loan f e = grind arith
