use Rattle.std.proofs.Common.{◌≡◌, ℕ, ◌+◌, ◌*◌, ◌/◌, ◌<◌, ◌≤◌, [], get_or}
use Rattle.vp_dots.specs.Dots.{span}
use Rattle.vp_dots.specs.Painting.{Painted}
use Rattle.vp_dots.specs.declared.Op.TheVariants.{White}
use Rattle.vp_field.proofs.band.cut.Given as goal

-- the rows before k are cut
abbrev pub invariant-loop-k : goal.invariant-loop-k
invariant-loop-k g l = record {
  done : (k : ℕ) → k < l.k → Painted White (span l.edge ((l.edge + 7) / 8 * 8)) (get_or l.fn.band k []) (get_or l.band k []);
  rest : (k : ℕ) → l.k ≤ k → get_or l.band k [] ≡ get_or l.fn.band k [];
}
