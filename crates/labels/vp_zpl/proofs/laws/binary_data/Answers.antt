use Rattle.vp_zpl.proofs.Heads.{still, binary_more}
use Rattle.vp_zpl.proofs.laws.binary_data.Goals as goal

pub returns-clause-head : goal.returns-clause-head
returns-clause-head c args b w = (still args b w).head_is

pub returns-clause-data_bytes : goal.returns-clause-data_bytes
returns-clause-data_bytes c args b w i few = binary_more args b w i few
