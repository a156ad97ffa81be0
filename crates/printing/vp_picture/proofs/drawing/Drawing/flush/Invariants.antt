use Rattle.std.proofs.Common.{◌≡◌, [], length}
use Rattle.vp_png.specs.Kept.{waiting_bytes}
use Rattle.vp_picture.specs.Kept.{Draws, to_come}
use Rattle.vp_picture.proofs.drawing.Drawing.flush.Given as goal

abbrev pub invariant-writes : goal.invariant-writes
invariant-writes g l = record {
  draws : Draws (g.K.Sink.contents l.fn.output) (g.K.Sink.contents l.output) l.fn.self l.self [];
  part : l.self.part.items ≡ l.fn.self.part.items;
  to_come : to_come l.self ≡ to_come l.fn.self;
  failed : g.K.Sink.failed_writes l.output ≡ g.K.Sink.failed_writes l.fn.output;
}

abbrev pub decreases-writes : goal.decreases-writes
decreases-writes g l = length (waiting_bytes l.self.png)
