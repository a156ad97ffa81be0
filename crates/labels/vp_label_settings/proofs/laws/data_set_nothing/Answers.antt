use Rattle.vp_label_settings.proofs.Storing.{stands_still}
use Rattle.vp_label_settings.proofs.laws.data_set_nothing.Goals as goal

pub returns : goal.returns
returns c now before bytes stands = stands_still now before bytes stands
