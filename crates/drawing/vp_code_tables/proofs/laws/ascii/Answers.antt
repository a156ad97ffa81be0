use Rattle.vp_code_tables.proofs.Below80.{usa, unchanged, in_utf8}
use Rattle.vp_code_tables.proofs.laws.ascii.Goals as goal

pub returns-clause-usa : goal.returns-clause-usa
returns-clause-usa c = usa

pub returns-clause-unchanged : goal.returns-clause-unchanged
returns-clause-unchanged c = unchanged

pub returns-clause-utf8 : goal.returns-clause-utf8
returns-clause-utf8 c = in_utf8
