use Rattle.std.proofs.Common.{◌≡◌, ◌-◌, ◌+◌, ◌++◌, length}
use Rattle.vp_qr.specs.Strings.{bits}
use Rattle.vp_qr.proofs.string.push_bits.Given as goal

abbrev pub invariant-loop-k : goal.invariant-loop-k
invariant-loop-k l =
    (l.string.items ++ bits (l.n - l.k) l.value ≡ l.initial.string.items ++ bits l.n l.value)
    × (length l.string.items ≡ length l.initial.string.items + l.k)
