use Rattle.std.proofs.Common.{◌≡◌, drop}
use Rattle.vp_png.specs.Crc.{crc_behind}
use Rattle.vp_png.proofs.crc.behind.Given as goal

abbrev pub invariant-loop-byte : goal.invariant-loop-byte
invariant-loop-byte l = crc_behind l.c (drop l.byte-index l.bytes) ≡ crc_behind l.start l.bytes
