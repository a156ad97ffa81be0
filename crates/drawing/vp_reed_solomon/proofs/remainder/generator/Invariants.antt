use Rattle.std.proofs.Common.{◌≡◌, ℕ, ◌+◌, ◌<◌, ◌∷◌, take, get_or}
use Rattle.vp_reed_solomon.specs.Fields.{order, power}
use Rattle.vp_reed_solomon.specs.Polynomials.{generator}
use Rattle.vp_reed_solomon.proofs.remainder.generator.Given as goal

abbrev pub invariant-loop : goal.invariant-loop
invariant-loop l = record {
  root : l.root ≡ power l.field l.counter;
  element : l.root < order l.field;
}

abbrev pub invariant-loop-n : goal.invariant-loop-n
invariant-loop-n l = record {
  made : 1 ∷ take l.n l.low ≡ generator l.field l.first l.n;
  root : l.root ≡ power l.field (l.first + l.n);
  element : l.root < order l.field;
  elements : (j : ℕ) → j < l.n → get_or l.low j 0 < order l.field;
}
