use Rattle.std.proofs.Common.{arith}
use Rattle.std.proofs.lemmas.Bool.{cases_Bool}
use Rattle.vp_label.proofs.Stores.{all_taken, all_unheard}
use Rattle.vp_label.proofs.label.Label.data_room.Goals as goal

pub returns-clause-room : goal.returns-clause-room
returns-clause-room g c = grind (arith, cases_Bool, all_taken, all_unheard)
