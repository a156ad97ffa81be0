use Rattle.std.proofs.Common.{◌-◌, arith}
use Rattle.vp_field.proofs.Alone.{block_alike}
use Rattle.vp_field.proofs.lines.BlockRowsInk.alike.Goals as goal

pub returns-clause-same : goal.returns-clause-same
returns-clause-same g c = λ x v low high.
    let a = c.alike_rows-first.ensures in
    let t = c.in-Some.ensures in
    block_alike _ _ _ _ _ _ c.args.y v c.in-Some.top _ t.1 t.0 (omega (arith, t.0, c.if-row-self.false)) (omega (arith, low)) (omega (arith, high, a.most)) (a.alike (v - c.in-Some.top) (omega (arith, low)) (omega (arith, low, high))) _ x
