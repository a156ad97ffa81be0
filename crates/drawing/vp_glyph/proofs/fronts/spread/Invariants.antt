use Rattle.std.proofs.Common.{◌-◌, ◌≤◌}
use Rattle.vp_glyph.specs.Halves.{front_dot}
use Rattle.vp_glyph.proofs.Gathered.{Added}
use Rattle.vp_glyph.proofs.fronts.spread.Given as goal

-- the rows before s are added
abbrev pub invariant-loop-s : goal.invariant-loop-s
invariant-loop-s g l = record {
  within : l.s ≤ 24;
  added : Added l.shown.rows l.above l.starts.high l.seen l.top l.s (front_dot 16 l.fn.groups l.fn.fronts) (front_dot 16 l.groups l.fronts);
}

abbrev pub decreases-loop-s : goal.decreases-loop-s
decreases-loop-s g l = 24 - l.s
