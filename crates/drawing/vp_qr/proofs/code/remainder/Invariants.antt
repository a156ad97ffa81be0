use Rattle.std.proofs.Common.{◌≡◌, ◌-◌, ◌<◌, ◌^◌}
use Rattle.vp_qr.specs.Codes.{remainder}
use Rattle.vp_qr.proofs.code.remainder.Given as goal

abbrev pub invariant-loop-k : goal.invariant-loop-k
invariant-loop-k l =
    (remainder l.polynomial l.degree (l.n - l.k) l.number ≡ remainder l.polynomial l.degree l.n l.initial.number)
    × (l.number < 2 ^ 32)
