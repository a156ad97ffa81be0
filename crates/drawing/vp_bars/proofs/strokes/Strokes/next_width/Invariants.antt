use Rattle.std.proofs.Common.{◌≡◌, take}
use Rattle.std.specs.List.{flat_map}
use Rattle.vp_bars.specs.Widths.{next_widths, total}
use Rattle.vp_bars.proofs.strokes.Strokes.next_width.Given as goal

-- the characters so far
abbrev pub invariant-loop-v : goal.invariant-loop-v
invariant-loop-v l = l.width ≡ total (flat_map (next_widths l.self.symbology l.self.narrow l.self.wide) (take l.v-index l.values))
