use Rattle.std.proofs.Common.{length, ◌-◌, ◌<◌, ◌≡◌, ◌≤◌, ◌++◌, take, drop}
use Rattle.vp_bands.specs.Meeting.{bands_of}
use Rattle.vp_bands.specs.Standing.{IsBefore}
use Rattle.vp_format.specs.Formats.{held}
use Rattle.vp_label.specs.Press.{left, HasStood, IsBetween, IsPress, IsReadTo}
use Rattle.vp_label.proofs.press.Press.put.Given as goal

-- n bytes are out, and the others stand as they were
abbrev pub invariant-loop-n : goal.invariant-loop-n
invariant-loop-n g l = record {
  press : IsPress l.sheets (held l.fn.fields l.stored) l.view l.self;
  room : l.n ≤ length l.initial.out;
  within : l.n ≤ length (left l.sheets (held l.fn.fields l.stored) l.view l.initial.self);
  bytes : l.out ≡ take l.n (left l.sheets (held l.fn.fields l.stored) l.view l.initial.self) ++ drop l.n l.initial.out;
  rest : left l.sheets (held l.fn.fields l.stored) l.view l.self ≡ drop l.n (left l.sheets (held l.fn.fields l.stored) l.view l.initial.self);
  ended : 0 < l.n → IsBetween l.self.copies.place → IsBefore l.sheets (held l.fn.fields l.stored) l.view (bands_of l.view) l.self.painter;
  fields : l.fields.items ≡ l.fn.fields.items;
  read : IsReadTo l.sheets (held l.fn.fields l.stored) l.view l.initial.self l.self l.fn.fields.read l.fields.read;
  stood : HasStood l.view l.initial.self l.self l.fn.fields l.fields;
  idle : l.n ≡ 0 → (l.self ≡ l.initial.self) × (l.fields ≡ l.fn.fields);
}

abbrev pub decreases-loop-n : goal.decreases-loop-n
decreases-loop-n g l = length l.initial.out - l.n
