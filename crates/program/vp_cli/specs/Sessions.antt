-- What a session does from its beginning, and how it ends.
use Rattle.std.specs.Prelude.{◌≡◌, List, [], ℕ, Option, Result, Ok, Err}
use Rattle.vp_engine.specs.Session.{Desk, Pumps}
use Rattle.vp_engine.specs.Setups.{Setup}
use Rattle.vp_engine.specs.declared.session.Report.{Report}
use Rattle.vp_engine.specs.declared.session.RunFault.{RunFault}
use Rattle.vp_engine.specs.declared.session.RunFault.TheVariants as fault
use Rattle.vp_exit_status.specs.declared.stop.Stop.{Stop}
use Rattle.vp_exit_status.specs.declared.stop.Stop.TheVariants.{Print, Read, Write, TooManyTurns}

abbrev pub stop_of : RunFault → Stop
stop_of (fault.Print fault after) = Print fault after
stop_of fault.Read = Read
stop_of fault.Write = Write
stop_of fault.TooManyTurns = TooManyTurns

abbrev pub ended_by : Result Report RunFault → Result (Unit {0}) Stop
ended_by (Ok report) = Ok tt
ended_by (Err fault) = Err (stop_of fault)

-- a session of this setup read and wrote from its beginning, as its own contract says, and so it ended
pub record IsRun (setup : Setup) (before after held holds : Option (List ℕ)) (ended : Result (Unit {0}) Stop)
    : Type 0 where
  pub session : Desk
  pub answer : Result Report RunFault
  pub pumps : Pumps before after held holds setup session [] [] answer
  pub ended_is : ended ≡ ended_by answer
