use Rattle.std.proofs.Common.{◌≡◌, ℕ, ◌+◌, ◌*◌, ◌-◌, ◌<◌, ◌≤◌, List, ◌∷◌, ◌++◌, length}
use Rattle.vp_png.specs.Kept.{bits_in, shown, IsPackedTo, HasPacked}
use Rattle.vp_png.proofs.packer.Packer.take.Given as goal

abbrev pub invariant-loop-at : goal.invariant-loop-at
invariant-loop-at l = record {
  packs : (gone before front : List ℕ) → HasPacked l.fn.self gone before → before ≡ front ++ shown l.fn.self.lines.line.items → IsPackedTo l.self gone front l.at;
  above : l.self.lines.above.items ≡ l.fn.self.lines.line.items;
  line : l.self.lines.line.items ≡ 255 ∷ l.row;
  within : l.at ≤ length l.self.lines.line.items;
  running : l.at < length l.self.lines.line.items → l.self.running ≡ 0;
  room : length (bits_in l.self.bits) ≤ length (bits_in l.fn.self.bits) + 50 + 9 * l.at;
}

abbrev pub decreases-loop-at : goal.decreases-loop-at
decreases-loop-at l = length l.self.lines.line.items - l.at
