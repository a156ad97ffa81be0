use Rattle.std.proofs.Common.{None}
use Rattle.vp_label_tests.proofs.bands.both.Goals as goal

pub copy-first-requires-clause-before : goal.copy-first-requires-clause-before
copy-first-requires-clause-before c = rw c.thread.ensures.read (c.thread.ensures.before (record { a = None; b = None }) c.args.format.now.stored c.requires.kept)
