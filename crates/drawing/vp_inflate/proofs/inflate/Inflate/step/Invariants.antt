use Rattle.std.proofs.Common.{◌≡◌, ℕ, ◌+◌, ◌-◌, ◌*◌, ◌≤◌, ◌++◌, List, length, take, drop}
use Rattle.vp_inflate.specs.Reaching.{Stands}
use Rattle.vp_inflate.proofs.inflate.Inflate.step.Given as goal

abbrev pub invariant-loop-put : goal.invariant-loop-put
invariant-loop-put l = record {
  stands : (t : List ℕ) → Stands l.fn.self t (take l.filled l.fn.output) → Stands l.self (t ++ take l.taken l.input) (take l.put l.output);
  taken : l.taken ≤ length l.input;
  put : l.put ≤ length l.output;
  further : l.filled ≤ l.put;
  kept : take l.filled l.output ≡ take l.filled l.fn.output;
  rest : drop l.put l.output ≡ drop l.put l.fn.output;
}

abbrev pub decreases-loop-put : goal.decreases-loop-put
decreases-loop-put l = length l.self.reader.held + 9 * (length l.input - l.taken) + (length l.output - l.put)
