-- What an event shows, and what a loan does.
use Rattle.std.specs.Prelude.{Option, None, Some, Result, Ok, Err}
use Rattle.std.specs.Borrow.{Bor}
use Rattle.vp_dots.specs.declared.fault.Fault.{Fault}
use Rattle.vp_esc.specs.declared.item.EscItem.{EscItem}
use Rattle.vp_esc.specs.declared.event.Event.{Event}
use Rattle.vp_esc.specs.declared.event.Event.TheVariants.{Nothing, Given}

-- by the item that is kept
abbrev pub shown : Event → EscItem → Option EscItem
shown Nothing item = None
shown Given item = Some item

abbrev pub shown_answer : Result Event Fault → EscItem → Result (Option EscItem) Fault
shown_answer (Ok event) item = Ok (shown event item)
shown_answer (Err fault) item = Err fault

-- by the item that is lent
abbrev pub shown_item : Option (Bor EscItem) → Option EscItem
shown_item None = None
shown_item (Some item) = Some item.now

abbrev pub shown_loan : Result (Option (Bor EscItem)) Fault → Result (Option EscItem) Fault
shown_loan (Ok item) = Ok (shown_item item)
shown_loan (Err fault) = Err fault
