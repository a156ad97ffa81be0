use Rattle.std.proofs.Common.{◌≡◌, ◌+◌, ◌++◌, length}
use Rattle.vp_qr.specs.Strings.{pads}
use Rattle.vp_qr.proofs.string.push_pads.Given as goal

abbrev pub invariant-loop-k : goal.invariant-loop-k
invariant-loop-k l =
    (l.words.items ≡ l.initial.words.items ++ pads l.k)
    × (length l.words.items ≡ length l.initial.words.items + l.k)
