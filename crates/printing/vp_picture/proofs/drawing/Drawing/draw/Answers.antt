use Rattle.std.proofs.Common.{arith, ◌+◌, take, drop, length, ap}
use Rattle.std.proofs.lemmas.List.{take-append-drop, length-drop}
use Rattle.std.proofs.lemmas.Result.{err_from_is_err_and}
use Rattle.vp_join.proofs.Cuts.{part_is}
use Rattle.vp_picture.proofs.Draws.{drawn_more}
use Rattle.vp_picture.proofs.drawing.Drawing.draw.Goals as goal

pub pieces-preserved : goal.pieces-preserved
pieces-preserved g c = record {
  draws = drawn_more _ _ _ _ _ _ _ c.args.rows.now _ c.pieces.at c.take-n.result (part_is c.pieces.at c.args.rows.now) c.pieces.invariant.draws c.take-n.ensures.shows c.in_ok-flush.ensures.draws;
  within = omega (arith, c.take-n.ensures.within, length-drop c.pieces.at c.args.rows.now, c.pieces.invariant.within);
  idle = c.in_ok-flush.ensures.idle;
  room = omega (arith, c.pieces.invariant.room, c.take-n.ensures.to_come, ap length c.in_ok-flush.ensures.part, c.in_ok-flush.ensures.to_come);
  failed = grind arith;
}

pub returns-in_err-flush-clause-writes : goal.returns-in_err-flush-clause-writes
returns-in_err-flush-clause-writes g c =
    let p = err_from_is_err_and c.from_residual.result c.from_residual.ensures.1 in
    record {
      taken = take (c.pieces.at + c.take-n.result) c.args.rows.now;
      rest = drop (c.pieces.at + c.take-n.result) c.args.rows.now;
      split = take-append-drop (c.pieces.at + c.take-n.result) c.args.rows.now;
      has = drawn_more _ _ _ _ _ _ _ c.args.rows.now _ c.pieces.at c.take-n.result (part_is c.pieces.at c.args.rows.now) c.pieces.invariant.draws c.take-n.ensures.shows c.in_err-flush.ensures.draws;
      answer = rw (p.1, p.2) c.in_err-flush.ensures.answer;
    }
