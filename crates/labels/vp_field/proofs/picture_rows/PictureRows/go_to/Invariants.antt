use Rattle.std.proofs.Common.{◌≡◌, ◌-◌, ◌≤◌}
use Rattle.vp_format.specs.declared.field.Content.TheVariants as contents
use Rattle.vp_field.specs.Fields.{AreMarksOf}
use Rattle.vp_field.proofs.picture_rows.PictureRows.go_to.Given as goal

-- the cursor is on its way, and each mark was made in its picture
abbrev pub invariant-loop-stop : goal.invariant-loop-stop
invariant-loop-stop l = record {
  rows : l.self.cursor ≡ record l.fn.self.cursor { next = l.self.cursor.next };
  shown : l.self.shown ≡ l.fn.self.shown;
  next : l.self.cursor.next ≤ l.stop;
  stop : l.stop ≤ l.row;
  marks : AreMarksOf l.stored (contents.Picture l.fn.picture) l.marks;
}

abbrev pub decreases-loop-stop : goal.decreases-loop-stop
decreases-loop-stop l = 8 - l.place
