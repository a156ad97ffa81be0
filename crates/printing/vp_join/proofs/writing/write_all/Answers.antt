use Rattle.std.proofs.Common.{arith}
use Rattle.std.proofs.lemmas.Grind.{common_steps}
use Rattle.std.proofs.lemmas.List.{take-append-drop}
use Rattle.std.proofs.lemmas.Bool.{ne_eqb}
use Rattle.std.proofs.KnownBytes.{Appends-kept}
use Rattle.vp_join.proofs.Cuts.{part_is}
use Rattle.vp_join.proofs.Streams.{took_none, took_more}
use Rattle.vp_join.proofs.writing.write_all.Goals as goal

pub returns-in_default-clause-writes : goal.returns-in_default-clause-writes
returns-in_default-clause-writes g c = grind (arith, take-append-drop c.writes.from c.args.bytes.now, Appends-kept)

pub returns-then-n-eq0-clause-writes : goal.returns-then-n-eq0-clause-writes
returns-then-n-eq0-clause-writes g c = grind (arith, take-append-drop c.writes.from c.args.bytes.now, took_none, part_is c.writes.from c.args.bytes.now)

pub writes-preserved : goal.writes-preserved
writes-preserved g c = grind (arith, took_more, part_is, common_steps, ne_eqb)
