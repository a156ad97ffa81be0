use Rattle.std.proofs.Common.{ap}
use Rattle.vp_closing.specs.Graphics.{picture_with, picture_unless}
use Rattle.vp_field.specs.Contents.{picture_of}
use Rattle.vp_closing.proofs.Reading.{row_refused, none_refused}
use Rattle.vp_closing.proofs.laws.pictures_are_read.Goals as goal

pub returns-clause-refused : goal.returns-clause-refused
returns-clause-refused c stored head bytes y below refused =
    ap (λ b. picture_unless b (picture_with head bytes))
    (row_refused (picture_of stored (picture_with head bytes)) y below refused)

pub returns-clause-kept : goal.returns-clause-kept
returns-clause-kept c stored head bytes taken =
    ap (λ b. picture_unless b (picture_with head bytes))
    (none_refused (picture_of stored (picture_with head bytes)) taken)
