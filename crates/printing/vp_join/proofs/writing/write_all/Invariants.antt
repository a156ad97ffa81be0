use Rattle.std.proofs.Common.{◌≡◌, ◌≤◌, ◌-◌, length, take}
use Rattle.std.specs.Io.KnownBytes.{Appends}
use Rattle.vp_join.proofs.writing.write_all.Given as goal

abbrev pub invariant-writes : goal.invariant-writes
invariant-writes g l = record {
  appended : Appends (g.K.Sink.contents l.fn.writer) (g.K.Sink.contents l.writer) (take l.from l.bytes);
  count : l.from ≤ length l.bytes;
  failed : g.K.Sink.failed_writes l.writer ≡ g.K.Sink.failed_writes l.fn.writer;
}

abbrev pub decreases-writes : goal.decreases-writes
decreases-writes g l = length l.bytes - l.from
