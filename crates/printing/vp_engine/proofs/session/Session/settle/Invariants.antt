use Rattle.std.proofs.Common.{◌≡◌, ℕ, List, length}
use Rattle.vp_engine.specs.Setups.{Setup}
use Rattle.vp_engine.specs.Session.{IsAt, Accepts, IsDrained}
use Rattle.vp_engine.proofs.session.Session.settle.Given as goal

abbrev pub invariant-inputs : goal.invariant-inputs
invariant-inputs g l = record {
  at : (setup : Setup) (r w : List ℕ) → IsAt setup l.fn.self r w → Accepts (g.K.Sink.contents l.fn.writer) (g.K.Sink.contents l.writer) setup l.self r w;
  drained : IsDrained l.self;
  failed : g.K.Sink.failed_writes l.writer ≡ g.K.Sink.failed_writes l.fn.writer;
}

abbrev pub decreases-inputs : goal.decreases-inputs
decreases-inputs g l = length l.self.unread
