use Rattle.std.proofs.Common.{get_or-set_same, get_or-set_other, arith}
use Rattle.std.proofs.lemmas.Bool.{cases_eq}
use Rattle.vp_field.proofs.marks.Marks.keep.Goals as goal

pub returns : goal.returns
returns c = grind (arith, cases_eq, get_or-set_same, get_or-set_other)
