use Rattle.std.proofs.Common.{◌∙◌, arith}
use Rattle.vp_field.specs.Contents.{picture_dot}
use Rattle.vp_field.proofs.Pictured.{lines_more}
use Rattle.vp_field.proofs.picture.paint_rows.Goals as goal

pub loop-y-preserved : goal.loop-y-preserved
loop-y-preserved g c =
    let i = c.loop-y.invariant in
    record {
      rows = rw i.rows at c.next_row.ensures.next;
      shown = omega (arith, i.shown, c.next_row.ensures.counted);
      len = c.next_row.ensures.len ∙ i.len;
      painted = lines_more c.args.op c.args.at.columns c.args.at.rows c.args.first (picture_dot c.args.rows.now.cursor.picture) c.args.from c.loop-y.y _ _ _ _ (omega arith) (rw i.rows at c.next_row.ensures.dots) i.painted
          c.paint_row_of.ensures;
    }
