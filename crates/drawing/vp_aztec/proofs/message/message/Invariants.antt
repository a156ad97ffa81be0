use Rattle.std.proofs.Common.{◌≡◌, ◌-◌, length, Some, []}
use Rattle.vp_aztec.specs.Messages.{steps, message}
use Rattle.vp_aztec.specs.Written.{written}
use Rattle.vp_aztec.proofs.message.message.Given as goal

abbrev pub invariant-loop : goal.invariant-loop
invariant-loop l = written l.bits (steps (length l.src - l.counter) l.mode l.left) ≡ written (Some []) (message l.src)
