use Rattle.vp_engine.specs.Setups.{reading}
use Rattle.vp_engine.proofs.Offsets.{place_gives, place_shortest, place_within, place_stays, place_rises}
use Rattle.vp_engine.proofs.laws.places.Goals as goal

pub returns-clause-gives : goal.returns-clause-gives
returns-clause-gives c language bytes k l = place_gives (reading language) bytes k l

pub returns-clause-shortest : goal.returns-clause-shortest
returns-clause-shortest c language bytes k n l = place_shortest (reading language) bytes k n l

pub returns-clause-within : goal.returns-clause-within
returns-clause-within c language bytes k = place_within (reading language) bytes k

pub returns-clause-stays : goal.returns-clause-stays
returns-clause-stays c language bytes more k l = place_stays (reading language) bytes more k l

pub returns-clause-rises : goal.returns-clause-rises
returns-clause-rises c language bytes j k l = place_rises (reading language) bytes j k l
