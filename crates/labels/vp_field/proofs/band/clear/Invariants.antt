use Rattle.std.proofs.Common.{◌≡◌, ℕ, ◌<◌, ◌≤◌, [], ◌++◌, get_or, replicate, drop}
use Rattle.vp_field.proofs.band.clear.Given as goal

-- the rows before k are white as far as the label reaches
abbrev pub invariant-loop-k : goal.invariant-loop-k
invariant-loop-k g l = record {
  done : (k : ℕ) → k < l.k → get_or l.band k [] ≡ replicate l.bytes 0 ++ drop l.bytes (get_or l.fn.band k []);
  rest : (k : ℕ) → l.k ≤ k → get_or l.band k [] ≡ get_or l.fn.band k [];
}
