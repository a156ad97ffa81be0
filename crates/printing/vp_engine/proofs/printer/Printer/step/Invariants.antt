use Rattle.std.proofs.Common.{◌≡◌, ◌≤◌, ◌<◌, ℕ, ◌-◌, ◌++◌, List, length, take, drop, IsSome}
use Rattle.vp_engine.specs.Setups.{Setup}
use Rattle.vp_engine.specs.Memory.{memory_held}
use Rattle.vp_engine.specs.Stands.{Stands}
use Rattle.vp_engine.proofs.printer.Printer.step.Given as goal

abbrev pub invariant-loop-taken : goal.invariant-loop-taken
invariant-loop-taken g l = record {
  taken : l.taken ≤ length l.input;
  put : l.put ≤ length l.output;
  rest : drop l.put l.output ≡ drop l.put l.fn.output;
  stands : (setup : Setup) (t o : List ℕ) → Stands setup l.fn.self t o → Stands setup l.self (t ++ take l.taken l.input) (o ++ take l.put l.output);
  full : 0 < length l.self.pending → l.put ≡ length l.output;
  still : IsSome l.fn.self.stopped → (l.self.stopped ≡ l.fn.self.stopped) × (l.taken ≡ 0) × (l.put ≡ 0);
  memory : memory_held l.self ≡ memory_held l.fn.self;
  zero : l.taken ≡ 0 → (l.fn.self.pending ≡ take l.put l.output ++ l.self.pending) × (l.self.stopped ≡ l.fn.self.stopped);
}

abbrev pub decreases-loop-taken : goal.decreases-loop-taken
decreases-loop-taken g l = length l.input - l.taken
