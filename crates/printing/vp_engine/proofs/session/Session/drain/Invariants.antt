use Rattle.std.proofs.Common.{◌≡◌, ℕ, List, length}
use Rattle.vp_engine.specs.Setups.{Setup}
use Rattle.vp_engine.specs.Session.{IsAt, Accepts}
use Rattle.vp_engine.proofs.session.Session.drain.Given as goal

abbrev pub invariant-drains : goal.invariant-drains
invariant-drains g l = record {
  at : (setup : Setup) (r w : List ℕ) → IsAt setup l.fn.self r w → Accepts (g.K.Sink.contents l.fn.writer) (g.K.Sink.contents l.writer) setup l.self r w;
  unread : l.self.unread ≡ l.fn.self.unread;
  failed : g.K.Sink.failed_writes l.writer ≡ g.K.Sink.failed_writes l.fn.writer;
}

abbrev pub decreases-drains : goal.decreases-drains
decreases-drains g l = length l.self.printer.pending
