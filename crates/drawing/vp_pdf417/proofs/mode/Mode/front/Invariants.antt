use Rattle.std.proofs.Common.{◌≡◌, ◌+◌, length}
use Rattle.vp_pdf417.specs.Messages.{front}
use Rattle.vp_pdf417.proofs.mode.Mode.front.Given as goal

abbrev pub invariant-loop-left : goal.invariant-loop-left
invariant-loop-left l = record {
  front : l.count + front l.self l.left ≡ front l.self l.src;
  within : l.count + length l.left ≡ length l.src;
}

abbrev pub decreases-loop-left : goal.decreases-loop-left
decreases-loop-left l = length l.left
