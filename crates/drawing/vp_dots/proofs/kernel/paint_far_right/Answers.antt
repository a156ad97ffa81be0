use Rattle.std.proofs.Common.{arith, sym, ◌/◌, ◌%◌, ◌-◌, length, leb, ◌&&◌}
use Rattle.std.proofs.lemmas.List.{take_rest}
use Rattle.vp_dots.specs.Dots.{dot}
use Rattle.vp_dots.proofs.Paints.{painted_same}
use Rattle.vp_dots.proofs.Parts.{painted_part}
use Rattle.vp_dots.proofs.Shifts.{twice_right}
use Rattle.vp_dots.proofs.kernel.paint_far_right.Goals as goal

pub returns-then-q-row : goal.returns-then-q-row
returns-then-q-row c =
    painted_same _ _ _ _ _ (λ d l. twice_right (dot c.args.source.now) c.args.far d)
    (painted_part c.args.op (λ d. leb (c.args.far % 8) d && dot c.args.source.now (d - c.args.far % 8)) (c.args.far / 8) (length c.args.row.now - c.args.far / 8) c.args.row.now _ (omega arith) (rw (sym (take_rest c.args.row.now (c.args.far / 8))) c.paint_right.ensures))
