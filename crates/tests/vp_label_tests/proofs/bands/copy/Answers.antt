use Rattle.std.proofs.Common.{None}
use Rattle.vp_format.specs.Formats.{held}
use Rattle.vp_label_tests.proofs.bands.copy.Goals as goal

pub returns : goal.returns
returns c = record {
  before = c.start.ensures.before (record { a = None; b = None }) (held c.loop-b.format.fields c.loop-b.format.stored) c.args.view c.loop-b.b c.loop-b.invariant;
}
