-- The exit statuses of a run that ends early.
use Rattle.std.specs.Prelude.{ℕ}
use Rattle.vp_exit_status.specs.declared.stop.Stop.{Stop}
use Rattle.vp_exit_status.specs.declared.stop.Stop.TheVariants.{Print, Join, CannotOpen, Sheet}
use Rattle.vp_exit_status.specs.declared.stop.Stop.TheVariants.{Read, Write, TooManyTurns, Memory}

-- 1: the stream, or the images; 3: a file, a sheet, a read or a write; 4: memory
abbrev pub status_of : Stop → ℕ
status_of (Print fault after) = 1
status_of (Join fault) = 1
status_of (CannotOpen name) = 3
status_of (Sheet name number error) = 3
status_of Read = 3
status_of Write = 3
status_of TooManyTurns = 3
status_of Memory = 4
