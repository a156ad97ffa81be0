use Rattle.std.proofs.Common.{true, false, eq-eqb}
use Rattle.std.proofs.lemmas.Bool.{ne_eqb}
use Rattle.vp_qr.proofs.WalkOrder.{right_here, left_here}
use Rattle.vp_qr.proofs.walk.place_at.Goals as goal

pub returns-then-pair-eq1-clause-right : goal.returns-then-pair-eq1-clause-right
returns-then-pair-eq1-clause-right c =
    right_here c.args.version c.requires.low c.requires.high c.args.pair c.args.half c.requires.pair c.requires.half true _ c.right_column-column.ensures.column (eq-eqb _ _ c.if-pair-eq1.true)

pub returns-then-pair-eq1-clause-left : goal.returns-then-pair-eq1-clause-left
returns-then-pair-eq1-clause-left c =
    left_here c.args.version c.requires.low c.requires.high c.args.pair c.args.half c.requires.pair c.requires.half true _ c.right_column-column.ensures.column (eq-eqb _ _ c.if-pair-eq1.true)

pub returns-clause-right : goal.returns-clause-right
returns-clause-right c =
    right_here c.args.version c.requires.low c.requires.high c.args.pair c.args.half c.requires.pair c.requires.half false _ c.right_column-column.ensures.column (ne_eqb _ _ c.if-pair-eq1.false)

pub returns-clause-left : goal.returns-clause-left
returns-clause-left c =
    left_here c.args.version c.requires.low c.requires.high c.args.pair c.args.half c.requires.pair c.requires.half false _ c.right_column-column.ensures.column (ne_eqb _ _ c.if-pair-eq1.false)
