use Rattle.std.proofs.Common.{arith}
use Rattle.vp_field.proofs.White.{shows_none}
use Rattle.vp_field.proofs.band.clear.Goals as goal

pub returns : goal.returns
returns g c =
    shows_none c.args.view c.args.first c.loop-k.k c.bytes_on_label-bytes.result c.args.band.now _ c.bytes_on_label-bytes.ensures.most c.row_lengths.ensures c.loop-k.invariant.done
    c.loop-k.invariant.rest (λ k h high. let on = c.rows_on_label-k-end.ensures.rows k h high in omega arith) c.bytes_on_label-bytes.ensures.columns
