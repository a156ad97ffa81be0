use Rattle.std.proofs.Common.{arith}
use Rattle.std.proofs.lemmas.Grind.{common_steps}
use Rattle.vp_font.proofs.RowBytes.{row_within, row_digit, length-row_of}
use Rattle.vp_font.proofs.row.push_row.Goals as goal

pub bounds-line-i : goal.bounds-line-i
bounds-line-i g c = grind (arith, common_steps, row_within c.args.bytes c.args.line.now c.requires.row)

pub bounds-line-i-in-loop-i : goal.bounds-line-i-in-loop-i
bounds-line-i-in-loop-i g c = grind (arith, common_steps, row_within c.args.bytes c.args.line.now c.requires.row)

pub nibble-requires : goal.nibble-requires
nibble-requires g c = grind (arith, common_steps, row_digit c.args.bytes c.args.line.now)

pub nibble-requires-in-loop-i : goal.nibble-requires-in-loop-i
nibble-requires-in-loop-i g c = grind (arith, common_steps, row_digit c.args.bytes c.args.line.now)

pub push_reserved-requires : goal.push_reserved-requires
push_reserved-requires g c = grind (arith, common_steps, length-row_of)
