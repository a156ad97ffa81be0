use Rattle.std.proofs.Common.{◌≡◌, ◌*◌, map, take}
use Rattle.vp_receipt_settings.proofs.tabs.stops_of.Given as goal

abbrev pub invariant-loop-n : goal.invariant-loop-n
invariant-loop-n l = l.stops.items ≡ map (λ n. n * l.advance) (take l.n-index l.characters.items)
