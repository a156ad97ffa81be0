use Rattle.std.proofs.Common.{◌≡◌, ◌≤◌, ◌++◌, length}
use Rattle.vp_escapes.specs.declared.bytes.TheConstants.{MOST}
use Rattle.vp_escapes.specs.Escapes.{read}
use Rattle.vp_escapes.proofs.bytes.Unescaped.read.Given as goal

abbrev pub invariant-loop-left : goal.invariant-loop-left
invariant-loop-left l = record {
  all : l.bytes.items ++ read l.sign 0 l.left ≡ read l.sign 0 l.src;
  room : length l.bytes.items ≤ MOST;
}

abbrev pub decreases-loop-left : goal.decreases-loop-left
decreases-loop-left l = length l.left
