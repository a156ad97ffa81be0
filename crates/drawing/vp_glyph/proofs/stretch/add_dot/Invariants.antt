use Rattle.std.proofs.Common.{◌≡◌, ◌&&◌, get_or, length}
use Rattle.vp_glyph.specs.Halves.{half_dot}
use Rattle.vp_glyph.proofs.Gathered.{Grown}
use Rattle.vp_glyph.proofs.stretch.add_dot.Given as goal

-- the rows before r have the dots
abbrev pub invariant-loop-r : goal.invariant-loop-r
invariant-loop-r l = record {
  count : length l.rows ≡ 24;
  grown : Grown (λ r d. half_dot (get_or l.cell r 0) l.s && half_dot l.mask d) l.r l.fn.rows l.rows;
}
