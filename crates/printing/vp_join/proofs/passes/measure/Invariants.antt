use Rattle.std.proofs.Common.{◌≡◌}
use Rattle.vp_join.specs.Standing.{IsWide}
use Rattle.vp_join.specs.Passes.{IsAfter, after_calls}
use Rattle.vp_join.proofs.passes.measure.Given as goal

abbrev pub invariant-turns : goal.invariant-turns
invariant-turns g l = record {
  after : IsAfter (g.S.Source.remaining l.fn.reader) (g.S.Source.remaining l.reader) l.reading;
  wide : IsWide l.reading.phase;
  reads : g.S.Source.reads l.reader ≡ after_calls (g.S.Source.reads l.fn.reader) l.turn;
  failed : g.S.Source.failed_reads l.reader ≡ g.S.Source.failed_reads l.fn.reader;
}
