use Rattle.std.proofs.Common.{◌+◌, ◌-◌, arith}
use Rattle.vp_page.proofs.Shown.{none_told, shows_above}
use Rattle.vp_page.proofs.line.run_from.Goals as goal

pub returns-then-is_empty-clause-same : goal.returns-then-is_empty-clause-same
returns-then-is_empty-clause-same c = λ i h. grind (arith, none_told, c.same_lines.ensures.same i h)

pub loop-n-preserved : goal.loop-n-preserved
loop-n-preserved c = record {
  some = omega arith;
  within = omega (arith, c.loop-n-test.true);
  same = λ i h. grind (arith, c.loop-n.invariant.some, c.loop-n.invariant.same i, c.loop-n.invariant.same (c.loop-n.n - 1), shows_above c.args.same.now c.args.lines.now (c.args.from + (c.loop-n.n - 1)));
}
