use Rattle.std.proofs.Common.{◌≡◌, ◌<◌, ℕ, List}
use Rattle.vp_engine.specs.Setups.{Setup}
use Rattle.vp_streams.specs.Count.{grown}
use Rattle.vp_engine.specs.Session.{IsAt, Reaches}
use Rattle.vp_engine.proofs.session.Session.run.Given as goal

abbrev pub invariant-turns : goal.invariant-turns
invariant-turns g l = record {
  reaches : (setup : Setup) (r w : List ℕ) → IsAt setup l.fn.self r w →
      Reaches (g.S.Source.remaining l.fn.reader) (g.S.Source.remaining l.reader) (g.K.Sink.contents l.fn.writer) (g.K.Sink.contents l.writer) setup l.self r w;
  failed_reads : g.S.Source.failed_reads l.reader ≡ g.S.Source.failed_reads l.fn.reader;
  failed_writes : g.K.Sink.failed_writes l.writer ≡ g.K.Sink.failed_writes l.fn.writer;
  none_yet : l._turn ≡ 0 → g.S.Source.reads l.reader ≡ g.S.Source.reads l.fn.reader;
  reads : 0 < l._turn → g.S.Source.reads l.reader ≡ grown (g.S.Source.reads l.fn.reader) l._turn;
}
