use Rattle.std.proofs.Common.{ap}
use Rattle.vp_cli.proofs.Ends.{bytes_to_limit}
use Rattle.vp_cli.proofs.sheets.bytes_of.Goals as goal

pub returns-in-Ok-read_to_end : goal.returns-in-Ok-read_to_end
returns-in-Ok-read_to_end g c = record {
  file = c.in_ok-file.file;
  named = c.in_ok-file.ensures;
  bytes_are = bytes_to_limit (g.F.File.Read.remaining c.take.result.inner) (g.F.File.Read.remaining c.in_ok-file.file)
      c.take.result.limit c.in-Ok.bytes.items c.read_to_end.new.buf.items
      (ap g.F.File.Read.remaining c.take.ensures.inner) c.take.ensures.limit c.in-Ok.ensures.items c.in-Ok-read_to_end.ensures.bytes;
}
