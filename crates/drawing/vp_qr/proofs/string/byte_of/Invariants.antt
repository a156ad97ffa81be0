use Rattle.std.proofs.Common.{◌≡◌, ◌<◌, ◌^◌, drop}
use Rattle.vp_qr.specs.Strings.{number_behind}
use Rattle.vp_qr.proofs.string.byte_of.Given as goal

abbrev pub invariant-loop-bit : goal.invariant-loop-bit
invariant-loop-bit l =
    (number_behind l.number (drop l.bit-index l.eight) ≡ number_behind 0 l.eight)
    × (l.number < 2 ^ l.bit-index)
