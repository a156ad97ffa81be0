use Rattle.std.proofs.Common.{◌≡◌, ◌≤◌, ◌+◌, ◌-◌, [], length, take}
use Rattle.vp_png.specs.Kept.{waiting_bytes}
use Rattle.vp_picture.specs.Kept.{Draws, to_come}
use Rattle.vp_picture.proofs.drawing.Drawing.draw.Given as goal

abbrev pub invariant-pieces : goal.invariant-pieces
invariant-pieces g l = record {
  draws : Draws (g.K.Sink.contents l.fn.output) (g.K.Sink.contents l.output) l.fn.self l.self (take l.at l.rows);
  within : l.at ≤ length l.rows;
  idle : waiting_bytes l.self.png ≡ [];
  room : l.at + length l.fn.self.part.items + to_come l.self ≡ length l.self.part.items + to_come l.fn.self;
  failed : g.K.Sink.failed_writes l.output ≡ g.K.Sink.failed_writes l.fn.output;
}

abbrev pub decreases-pieces : goal.decreases-pieces
decreases-pieces g l = length l.rows - l.at
