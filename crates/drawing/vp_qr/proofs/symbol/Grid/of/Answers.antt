use Rattle.std.proofs.Common.{ℕ, ◌<◌}
use Rattle.vp_qr.specs.Places.{size}
use Rattle.vp_qr.proofs.FreeModules.{none_dark}
use Rattle.vp_qr.proofs.symbol.Grid.of.Goals as goal

pub returns-clause-grid : goal.returns-clause-grid
returns-clause-grid c = record {
  is = record { low = c.requires.low; high = c.requires.high; free_is = c.free_rows-free.ensures; patterns_are = c.pattern_rows-patterns.ensures; format_is = c.format_rows-format.ensures };
  unmasked_is = λ (i j : ℕ) (hi : i < size c.args.version) (hj : j < size c.args.version). rw (none_dark i j) at (c.fill.ensures i j hi hj);
}
