use Rattle.std.proofs.Common.{arith}
use Rattle.vp_glyph.proofs.Gathered.{alike_rows}
use Rattle.vp_glyph.proofs.fronts.SheetRows.end_of.Goals as goal

pub returns-clause-alike : goal.returns-clause-alike
returns-clause-alike c =
    let b = c.args.self.now in
    let far = c.min.ensures in
    alike_rows b.rows b.edges c.args.s c.min.result b.edges_are (omega (arith, far)) (λ r l m. c.zeros_from.ensures.zeros r l (omega (arith, far, m)))
