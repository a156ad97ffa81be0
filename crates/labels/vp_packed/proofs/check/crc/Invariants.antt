use Rattle.std.proofs.Common.{◌≡◌, drop}
use Rattle.vp_packed.specs.Check.{crc_behind}
use Rattle.vp_packed.proofs.check.crc.Given as goal

abbrev pub invariant-loop-sign : goal.invariant-loop-sign
invariant-loop-sign l = crc_behind l.c (drop l.sign-index l.signs) ≡ crc_behind 0 l.signs
