use Rattle.std.proofs.Common.{◌≡◌, ◌+◌, ◌*◌, map, length}
use Rattle.std.specs.List.{range_with_len}
use Rattle.vp_receipt_settings.proofs.tabs.first_stops.Given as goal

abbrev pub invariant-loop-k : goal.invariant-loop-k
invariant-loop-k l = record {
  items : l.stops.items ≡ map (λ k. 96 * (k + 1)) (range_with_len 0 l.k);
  len : length l.stops.items ≡ l.k;
}
