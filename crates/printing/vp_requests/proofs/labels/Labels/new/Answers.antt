use Rattle.std.proofs.Common.{refl}
use Rattle.vp_requests.proofs.Going.{no_labels}
use Rattle.vp_requests.proofs.LabelCuts.{stand_first}
use Rattle.vp_requests.proofs.labels.Labels.new.Goals as goal

pub returns : goal.returns
returns c = record { stands = stand_first _ c.new.ensures.stands c.new-2.ensures refl refl; all = no_labels }
