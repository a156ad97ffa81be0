use Rattle.std.proofs.Common.{sym}
use Rattle.vp_calls.specs.Making.{sheet_in}
use Rattle.vp_calls.proofs.Sheets.{offends, right}
use Rattle.vp_calls.proofs.making.made.Goals as goal

pub returns-in-Err-clause-refused : goal.returns-in-Err-clause-refused
returns-in-Err-clause-refused g c =
    ((c.in-Some.language, sym c.in-Some.ensures), offends c.in-Err.error (sheet_in c.args.a.now 12 24) c.in-Err.ensures)

pub returns-in-Err-sheet_in-clause-refused : goal.returns-in-Err-sheet_in-clause-refused
returns-in-Err-sheet_in-clause-refused g c = (
  (c.in-Some.language, sym c.in-Some.ensures),
  right c.in-Ok.sheet (sheet_in c.args.a.now 12 24) c.in-Ok.ensures,
  offends c.in-Err-sheet_in.error (sheet_in c.args.b.now 9 17) c.in-Err-sheet_in.ensures,
)
