-- What a step's numbers tell, and faults as numbers.
use Rattle.std.proofs.Common.{◌≢◌, arith, ◌≡◌, Some, refl, sym, ap, ◌∙◌}
use Rattle.vp_dots.specs.declared.fault.Fault.{Fault}
use Rattle.vp_dots.specs.declared.fault.Fault.TheVariants.{Unknown, Symbol, SymbolTooLong, SymbolTooWide, FieldsFull, StoreFull, Graphic, Truncated, Unprinted}
use Rattle.vp_dots.specs.declared.fault.Why.TheVariants.{Empty, Char, Length, CodeSet, Unsupported}
use Rattle.vp_engine.specs.declared.printer.State.{State}
use Rattle.vp_engine.specs.declared.printer.State.TheVariants.{More, Room, Stopped}
use Rattle.vp_engine.specs.declared.printer.Step.{Step}
use Rattle.vp_calls.specs.Faults.{no_fault, in_c, from_c}
use Rattle.vp_calls.specs.Steps.{state_of, fault_of, progress_of, Stops}
use Rattle.vp_calls.specs.declared.progress.TheConstants.{MORE, ROOM, STOPPED}

-- the numbers of a fault tell of it
pub from_in : (f : Fault) → from_c (in_c f) ≡ Some f
from_in (Unknown lead byte) = refl
from_in (Symbol Empty) = refl
from_in (Symbol Char) = refl
from_in (Symbol Length) = refl
from_in (Symbol CodeSet) = refl
from_in (Symbol Unsupported) = refl
from_in SymbolTooLong = refl
from_in SymbolTooWide = refl
from_in FieldsFull = refl
from_in StoreFull = refl
from_in Graphic = refl
from_in Truncated = refl
from_in Unprinted = refl

same_fault : (f g : Fault) → in_c f ≡ in_c g → f ≡ g
same_fault f g e = let both : Some f ≡ Some g = sym (from_in f) ∙ ap from_c e ∙ from_in g in cc

pub is_more : (s : State) → state_of s ≡ MORE → s ≡ More
is_more More e = refl
is_more Room e = absurd (omega (arith, e))
is_more (Stopped f) e = absurd (omega (arith, e))

pub is_room : (s : State) → state_of s ≡ ROOM → s ≡ Room
is_room More e = absurd (omega (arith, e))
is_room Room e = refl
is_room (Stopped f) e = absurd (omega (arith, e))

is_stop : (s : State) (f : Fault) → state_of s ≡ STOPPED → fault_of s ≡ in_c f → s ≡ Stopped f
is_stop More f e k = absurd (omega (arith, e))
is_stop Room f e k = absurd (omega (arith, e))
is_stop (Stopped g) f e k = ap Stopped (same_fault g f k)

pub is_stopped : (s : Step) (f : Fault) → Stops f (progress_of s) → s.state ≡ Stopped f
is_stopped s f k = is_stop s.state f k.state k.fault

pub stops : (s : Step) (f : Fault) → s.state ≡ Stopped f → Stops f (progress_of s)
stops s f e = record { state = ap state_of e; fault = ap fault_of e }

pub no_fault_unless : (s : State) → state_of s ≢ STOPPED → fault_of s ≡ no_fault
no_fault_unless More h = refl
no_fault_unless Room h = refl
no_fault_unless (Stopped f) h = absurd (h refl)
