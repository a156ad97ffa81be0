use Rattle.std.proofs.Common.{◌≡◌, ℕ, ◌*◌, ◌≤◌, drop}
use Rattle.vp_format.specs.Codes.{symbols_behind}
use Rattle.vp_format.specs.Pictures.{shown_at}
use Rattle.vp_label_tests.proofs.format.places.value_of_place.Given as goal

-- the symbols so far end at `start`, at or before the place, and the counts so far stand before the codes
-- that are left
abbrev pub invariant-loop-i : goal.invariant-loop-i
invariant-loop-i l = record {
  start : l.start ≤ l.place;
  small : l.count ≤ 400 * l.i;
  rest : (k : ℕ) × (shown_at l.width 0 (symbols_behind l.codes 0 0) l.place
      ≡ shown_at l.width l.start (symbols_behind (drop l.i l.codes) l.count k) l.place);
}
