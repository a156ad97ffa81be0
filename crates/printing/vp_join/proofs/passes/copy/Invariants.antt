use Rattle.std.proofs.Common.{◌≡◌, ◌*◌, ◌-◌}
use Rattle.vp_dots.specs.Images.{row_bytes}
use Rattle.vp_join.specs.Standing.{IsCounted, IsWide}
use Rattle.vp_join.specs.Passes.{IsCopied, Follows, after_calls}
use Rattle.vp_join.proofs.passes.copy.Given as goal

abbrev pub invariant-turns : goal.invariant-turns
invariant-turns g l = record {
  copied : IsCopied (g.T.Source.remaining l.fn.reader) (g.T.Source.remaining l.reader) (λ bytes. Follows g.W.ImageWriter.has l.fn.writer bytes l.writer) l.size l.reading l.given;
  counted : IsCounted l.reading l.given;
  wide : IsWide l.reading.phase;
  reads : g.T.Source.reads l.reader ≡ after_calls (g.T.Source.reads l.fn.reader) l._turn;
  failed_reads : g.T.Source.failed_reads l.reader ≡ g.T.Source.failed_reads l.fn.reader;
  awaits : g.W.ImageWriter.awaits l.writer (l.size.height * row_bytes l.size.width - l.given);
  failed_writes : g.W.ImageWriter.failures l.writer ≡ g.W.ImageWriter.failures l.fn.writer;
}
