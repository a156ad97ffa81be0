use Rattle.vp_maxicode.proofs.PlaceTable.{have_places}
use Rattle.vp_maxicode.proofs.place.places_law.Goals as goal

pub returns : goal.returns
returns c = have_places
