use Rattle.std.proofs.Common.{arith}
use Rattle.vp_glyph.proofs.Cuts.{row_in_cell}
use Rattle.vp_glyph.proofs.sheet.cut_row.Goals as goal

pub returns : goal.returns
returns c = λ x. row_in_cell _ c.args.c x c.args.y _ c.word_at.result c.first_dots.result _ c.requires.w c.requires.y (omega arith) (c.word_at.ensures x) (c.first_dots.ensures x) (c.shared.ensures x)
