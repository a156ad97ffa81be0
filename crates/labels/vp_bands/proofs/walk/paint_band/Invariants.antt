use Rattle.std.proofs.Common.{◌≡◌, ◌+◌, ◌*◌, ◌^◌, ◌-◌, ◌≤◌, length, map, take}
use Rattle.std.specs.List.{sum_by}
use Rattle.vp_field.specs.Bands.{Shows}
use Rattle.vp_field.specs.Fields.{stroke_of}
use Rattle.vp_fields_by_band.specs.Held.{Stays}
use Rattle.vp_fields_by_band.specs.Threads.{IsWalk}
use Rattle.vp_format.specs.Formats.{held}
use Rattle.vp_bands.specs.Standing.{seen_of, AreMarked}
use Rattle.vp_bands.proofs.Painted.{met_before}
use Rattle.vp_bands.proofs.Work.{field_work}
use Rattle.vp_bands.proofs.walk.paint_band.Given as goal

-- of the fields seen those that meet the band are painted, and each of these was read once, as were its marks,
-- and took one look or two, and no more than its work, and something where it has ink there
abbrev pub invariant-loop-n : goal.invariant-loop-n
invariant-loop-n g l = let format = held l.fn.fields l.stored in record {
  walk : IsWalk l.fn.threads.entries l.threads.links l.b l.walk;
  stays : Stays l.fn.threads l.threads;
  lengths : length l.marks.items ≡ length l.fn.marks.items;
  shows : Shows l.view (32 * l.b) (map (stroke_of l.sheets l.stored) (met_before l.sheets format l.view l.b l.walk.seen)) l.band;
  ahead : AreMarked format l.fn.threads.entries l.marks.items l.b l.walk.seen (length l.fn.threads.entries);
  behind : AreMarked format l.fn.threads.entries l.marks.items (l.b + 1) 0 l.walk.seen;
  at_least : l.fn.threads.looks + length (met_before l.sheets format l.view l.b l.walk.seen) ≤ l.threads.looks;
  at_most : l.threads.looks ≤ l.fn.threads.looks + 1 + 2 * length (met_before l.sheets format l.view l.b l.walk.seen);
  fields : l.fields.items ≡ l.fn.fields.items;
  read : l.fields.read ≡ l.fn.fields.read + length (met_before l.sheets format l.view l.b l.walk.seen);
  read_marks : l.marks.read ≡ l.fn.marks.read + length (met_before l.sheets format l.view l.b l.walk.seen);
  work : l.work ≤ sum_by field_work (met_before l.sheets format l.view l.b l.walk.seen);
  shown : length (seen_of l.sheets l.stored l.view l.b (take l.walk.seen l.fn.fields.items)) ≤ l.work;
  countable : l.work ≤ 2 ^ 27 * length (met_before l.sheets format l.view l.b l.walk.seen);
}

abbrev pub decreases-loop-n : goal.decreases-loop-n
decreases-loop-n g l = length l.fn.threads.entries - l.walk.seen
