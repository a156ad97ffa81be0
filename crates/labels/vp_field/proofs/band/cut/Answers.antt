use Rattle.std.proofs.Common.{arith}
use Rattle.vp_field.proofs.White.{shows_cut}
use Rattle.vp_field.proofs.band.cut.Goals as goal

pub returns : goal.returns
returns g c =
    shows_cut c.args.view c.args.first c.loop-k.k _ c.args.band.now _ c.requires (omega arith) (rw c.from-edge.ensures at c.loop-k.invariant.done)
    (λ k h high. let on = c.rows_on_label-k-end.ensures.rows k h high in omega arith)
