-- What no bytes of receipts give.
use Rattle.std.proofs.Common.{◌≡◌, [], None, refl}
use Rattle.vp_esc.specs.declared.reading.Reading.{Reading}
use Rattle.vp_esc.specs.Split.{split, split_on, items, fault_of}
use Rattle.vp_esc.specs.Units.{fault_in, given}

pub items_none : (by : Reading) → items by [] ≡ []
unfolding items split split_on given
items_none by = refl

pub fault_none : (by : Reading) → fault_of by [] ≡ None
unfolding fault_of split split_on fault_in
fault_none by = refl
