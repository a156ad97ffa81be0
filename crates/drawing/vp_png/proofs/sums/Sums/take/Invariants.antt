use Rattle.std.proofs.Common.{◌≡◌, ◌+◌, ◌*◌, ◌≤◌, ◌∷◌, sum, take}
use Rattle.vp_png.specs.Zlib.{sums_after}
use Rattle.vp_png.specs.Kept.{shown}
use Rattle.vp_png.proofs.sums.Sums.take.Given as goal

abbrev pub invariant-loop-byte : goal.invariant-loop-byte
invariant-loop-byte l = record {
  first : l.first ≡ l.fn.self.first + sum (shown (take l.byte-index l.row));
  second : l.second ≡ l.fn.self.second + sums_after l.fn.self.first (0 ∷ shown (take l.byte-index l.row));
  few : l.first ≤ l.fn.self.first + 255 * l.byte-index;
  room : l.second ≤ l.fn.self.second + 118560 * (l.byte-index + 1);
}
