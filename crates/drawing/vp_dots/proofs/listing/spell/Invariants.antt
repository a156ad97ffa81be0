use Rattle.std.proofs.Common.{◌≡◌, ◌+◌, ◌*◌, ◌++◌, length, take}
use Rattle.vp_dots.specs.Listing.{hex_bytes}
use Rattle.vp_dots.proofs.listing.spell.Given as goal

abbrev pub invariant-loop-byte : goal.invariant-loop-byte
invariant-loop-byte g l = record {
  value : l.line.items ≡ l.fn.line.items ++ hex_bytes (take l.byte-index l.bytes);
  len : length l.line.items ≡ length l.fn.line.items + 3 * l.byte-index;
}
