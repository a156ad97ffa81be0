use Rattle.std.proofs.Common.{arith}
use Rattle.std.proofs.lemmas.List.{length-take, length-drop, length-append}
use Rattle.std.proofs.lemmas.Bool.{cases_lt}
use Rattle.vp_format.proofs.Nibbles.{nibble_append, nibble_kept, nibble_behind}
use Rattle.vp_format.proofs.packing.pack_filled.Goals as goal

pub returns-clause-packed : goal.returns-clause-packed
returns-clause-packed c small j l = grind (arith, length-take, length-append, length-drop, cases_lt, nibble_kept, nibble_append, nibble_behind)
