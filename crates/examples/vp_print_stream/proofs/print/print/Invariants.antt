use Rattle.std.proofs.Common.{◌≤◌, length}
use Rattle.vp_engine.specs.Setups.{setup_of}
use Rattle.vp_print_stream.proofs.Reading.{IsReading, part}
use Rattle.vp_print_stream.proofs.print.print.Given as goal

abbrev pub invariant-steps : goal.invariant-steps
invariant-steps g l = record {
  order : l.from ≤ l.to;
  fits : l.to ≤ length l.input;
  reading : IsReading (g.R.Read.remaining l.fn.reader) (g.R.Read.remaining l.reader) (setup_of l.fn.language l.fn.sheets) l.printer (part l.input l.from l.to) l.paper.items;
}
