use Rattle.std.proofs.Common.{◌/◌, ◌≡◌, ◌&&◌, ltb, length}
use Rattle.vp_dots.specs.Dots.{dot}
use Rattle.vp_dots.specs.Painting.{Painted}
use Rattle.vp_dots.specs.declared.Op.TheVariants.{Black}
use Rattle.vp_glyph.proofs.runs.blacken.Given as goal

-- the bytes before i are done
abbrev pub invariant-loop-i : goal.invariant-loop-i
invariant-loop-i g l = record {
  count : length l.row ≡ g.row.B;
  painted : Painted Black (λ d. ltb (d / 8) l.i && dot l.ink d) l.fn.row l.row;
}
