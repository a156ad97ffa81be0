use Rattle.std.proofs.Common.{◌≡◌, ℕ, List, length}
use Rattle.vp_engine.specs.Setups.{Setup}
use Rattle.vp_engine.specs.Session.{IsAt, Accepts, SameDesk}
use Rattle.vp_engine.proofs.session.Session.flush.Given as goal

abbrev pub invariant-writes : goal.invariant-writes
invariant-writes g l = record {
  at : (setup : Setup) (r w : List ℕ) → IsAt setup l.fn.self r w → Accepts (g.K.Sink.contents l.fn.writer) (g.K.Sink.contents l.writer) setup l.self r w;
  rest : SameDesk l.fn.self l.self;
  failed : g.K.Sink.failed_writes l.writer ≡ g.K.Sink.failed_writes l.fn.writer;
}

abbrev pub decreases-writes : goal.decreases-writes
decreases-writes g l = length l.self.unwritten
