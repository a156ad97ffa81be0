use Rattle.std.proofs.Common.{arith}
use Rattle.vp_dots.proofs.Spans.{bit_of_from}
use Rattle.vp_join.proofs.Paddings.{none_done, one_done, first_at, next_at}
use Rattle.vp_join.proofs.padding.clear_padding.Goals as goal

pub rows-init : goal.rows-init
rows-init c = grind (arith, first_at c.args.given c.bytes_of_row-bytes.result, none_done c.args.width c.args.given c.bytes_of_row-bytes.result c.args.rows.now)

pub rows-preserved : goal.rows-preserved
rows-preserved c = record {
  at = next_at c.args.given c.rows.last c.bytes_of_row-bytes.result c.rows.invariant.at;
  painted = one_done c.args.width c.args.given c.rows.invariant.at.0 c.rows.last c.bytes_of_row-bytes.result _ _ c.args.rows.now c.rows.rows (omega arith) c.bytes_of_row-bytes.ensures c.rows.invariant.at.1 c.rows-test.true (λ k l. bit_of_from _ k (omega arith) l) (omega arith) c.cleared.ensures c.rows.invariant.painted;
}
