use Rattle.vp_zpl.proofs.Blanks.{parameters_blank, head_blank, data_blank}
use Rattle.vp_zpl.proofs.laws.blanks.Goals as goal

pub returns-clause-parameters : goal.returns-clause-parameters
returns-clause-parameters c args more = parameters_blank args more

pub returns-clause-head : goal.returns-clause-head
returns-clause-head c args more w = (head_blank args more, data_blank args more w)
