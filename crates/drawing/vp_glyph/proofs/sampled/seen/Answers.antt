use Rattle.std.proofs.Common.{arith, sym, w64, ◌*◌, ◌<◌, ◌+◌, ◌≤◌}
use Rattle.std.proofs.lemmas.Grind.{div_ceil_times}
use Rattle.std.proofs.lemmas.Int.{to_z-of_z}
use Rattle.vp_glyph.proofs.Handed.{cells_upto, cells_few}
use Rattle.vp_glyph.proofs.sampled.seen.Goals as goal

pub returns-clause-before : goal.returns-clause-before
returns-clause-before c = grind (arith, to_z-of_z)

pub returns-clause-behind : goal.returns-clause-behind
returns-clause-behind c =
    let begun : c.seen_dots-from.result.1 ≤ c.begun_cells.result * c.args.w = rw c.begun_cells.ensures (div_ceil_times c.seen_dots-from.result.1 c.args.w c.requires.some).0 in
    rw (sym (to_z-of_z w64 c.args.at c.ranges.at)) (λ x d g m n. c.seen_dots-from.ensures.behind x d (omega arith) m n)

pub returns-clause-last : goal.returns-clause-last
returns-clause-last c = grind (arith, div_ceil_times, cells_upto, c.begun_cells.ensures)

pub returns-clause-few : goal.returns-clause-few
returns-clause-few c =
    let w = c.args.w in
    let begun : c.begun_cells.result * w < c.seen_dots-from.result.1 + w = rw c.begun_cells.ensures (div_ceil_times c.seen_dots-from.result.1 w c.requires.some).1 in
    rw c.whole_cells.ensures (cells_few c.seen_dots-from.result.0 c.seen_dots-from.result.1 (8 * c.args.bytes) w c.begun_cells.result c.requires.some c.seen_dots-from.ensures.few begun)
