-- And so may a reference to it.
use denote.Param.Send.{IsSend, IsSync, owning_send, part_keyless, sendable}
use Rattle.vp_count.specs.contracts.Count.{the_row, the_type}

the_row_send : IsSend the_row
the_row_send = owning_send the_type (search sendable, tt) (λ d. tt) (λ k x w. tt)

pub sync : IsSync the_row
sync = record { shared = λ d b o κ q. part_keyless the_row the_row_send q d b o }
