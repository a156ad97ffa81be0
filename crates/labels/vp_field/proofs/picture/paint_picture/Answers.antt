use Rattle.std.proofs.lemmas.Grind.{common_steps}
use Rattle.std.proofs.Common.{◌∙◌, arith, pos, ◌+◌}
use Rattle.std.proofs.lemmas.List.{length-take}
use Rattle.vp_format.specs.declared.field.Content.TheVariants as contents
use Rattle.vp_field.specs.Contents.{picture_of, picture_dot}
use Rattle.vp_field.specs.Drawn.{drawn}
use Rattle.vp_field.proofs.Boxed.{picture_inside}
use Rattle.vp_field.proofs.Pictured.{lines_init, lines_all}
use Rattle.vp_field.proofs.Places.{at_true, line_inside}
use Rattle.vp_field.specs.Axes.{dot_on}
use Rattle.vp_field.specs.Places.{at_place}
use Rattle.vp_field.proofs.picture.paint_picture.Goals as goal

pub returns-then-from-to-clause-dots : goal.returns-then-from-to-clause-dots
returns-then-from-to-clause-dots g c sheets =
    let a = c.args in
    let p = picture_of a.stored.now a.picture in
    let at = c.lying-at in
    let on = c.lines_on-from in
    lines_all a.on.op at.result.columns at.result.rows a.first (picture_dot p) a.picture.rows on.result.0 on.result.1 (drawn sheets a.stored.now (contents.Picture a.picture) a.on a.first) a.band.now a.band.now
    (λ m n e. (picture_inside p m n e).1) (λ k n l o e. (on.ensures.from k n l o e, on.ensures.to k n l o e)) (λ x k. rw c.requires.normal (at.ensures.ink (picture_dot p) (pos x) (pos (a.first + k))))
    (lines_init a.on.op at.result.columns at.result.rows a.first (picture_dot p) on.result.0 on.result.1 a.band.now (omega arith))

pub returns-clause-dots : goal.returns-clause-dots
returns-clause-dots g c sheets =
    let a = c.args in
    let p = picture_of a.stored.now a.picture in
    let at = c.lying-at in
    let on = c.lines_on-from in
    lines_all a.on.op at.result.columns at.result.rows a.first (picture_dot p) a.picture.rows on.result.0 on.result.1 (drawn sheets a.stored.now (contents.Picture a.picture) a.on a.first) a.band.now c.paint_rows.new.band
    (λ m n e. (picture_inside p m n e).1) (λ k n l o e. (on.ensures.from k n l o e, on.ensures.to k n l o e)) (λ x k. rw c.requires.normal (at.ensures.ink (picture_dot p) (pos x) (pos (a.first + k))))
    (rw (c.go_to.ensures.rows, c.new-rows.ensures.picture) at c.paint_rows.ensures.painted)

pub work-requires-clause-few : goal.work-requires-clause-few
work-requires-clause-few g c = grind (arith, length-take)

pub returns-clause-work : goal.returns-clause-work
returns-clause-work g c = grind (arith, length-take)

pub returns-then-from-to-clause-counted : goal.returns-then-from-to-clause-counted
returns-then-from-to-clause-counted g c sheets = λ x k low e.
    let a = c.args in
    let p = picture_of a.stored.now a.picture in
    let across = dot_on c.lying-at.result.columns (pos x) in
    let seen = rw c.requires.normal (c.lying-at.ensures.ink (picture_dot p) (pos x) (pos (a.first + k))) ∙ e in
    let line = at_true (λ v. at_place (λ u. picture_dot p u v) across) (dot_on c.lying-at.result.rows (pos (a.first + k))) seen in
    let inside = line_inside (picture_dot p) a.picture.rows (λ m n e. (picture_inside p m n e).1) across line.0 line.1 in
    absurd (omega (arith, c.lines_on-from.ensures.from k line.0 low inside line.2, c.lines_on-from.ensures.to k line.0 low inside line.2))

pub returns-clause-counted : goal.returns-clause-counted
returns-clause-counted g c sheets = λ x k low e. omega (arith, c.work.ensures.shown, c.paint_rows.ensures.counted)

pub new-rows-requires-clause-mark : goal.new-rows-requires-clause-mark
new-rows-requires-clause-mark g c = c.last_before-place.ensures.mark c.args.stored.now (contents.Picture c.args.picture) c.requires.marks

pub returns-clause-marks : goal.returns-clause-marks
returns-clause-marks g c = grind (arith, common_steps)
