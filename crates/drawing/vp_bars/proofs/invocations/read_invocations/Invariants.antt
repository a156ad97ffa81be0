use Rattle.std.proofs.Common.{◌≡◌, ◌+◌, ◌≤◌, length}
use Rattle.vp_bars.specs.CodeSets.{onto, tokens}
use Rattle.vp_bars.specs.Invocations.{greater, invoked}
use Rattle.vp_bars.proofs.invocations.read_invocations.Given as goal

-- the values so far, and those of the bytes that are left
abbrev pub invariant-loop-token : goal.invariant-loop-token
invariant-loop-token l = record {
  all : invoked l.fn.start (tokens greater l.src) ≡ onto l.values.items (invoked l.set (tokens greater l.bytes));
  few : length l.values.items + length l.bytes ≤ length l.src;
}

abbrev pub decreases-loop-token : goal.decreases-loop-token
decreases-loop-token l = length l.bytes
