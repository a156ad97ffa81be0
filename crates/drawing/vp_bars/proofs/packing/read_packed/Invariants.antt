use Rattle.std.proofs.Common.{◌≡◌, ◌+◌, ◌≤◌, length}
use Rattle.vp_bars.specs.CodeSets.{onto}
use Rattle.vp_bars.specs.Packing.{packed, room_for}
use Rattle.vp_bars.proofs.packing.read_packed.Given as goal

-- the values so far, and those of the bytes that are left
abbrev pub invariant-loop-bytes : goal.invariant-loop-bytes
invariant-loop-bytes l = record {
  all : packed l.fn.start l.src ≡ onto l.values.items (packed l.set l.bytes);
  room : length l.values.items + room_for l.set l.bytes ≤ 255;
}

abbrev pub decreases-loop-bytes : goal.decreases-loop-bytes
decreases-loop-bytes l = length l.bytes
