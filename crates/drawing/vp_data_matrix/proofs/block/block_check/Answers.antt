use Rattle.std.proofs.Common.{arith, ◌∙◌}
use Rattle.std.proofs.lemmas.List.{take_at, length-take-le}
use Rattle.vp_data_matrix.proofs.BlockWords.{check_made}
use Rattle.vp_data_matrix.proofs.block.block_check.Goals as goal

pub returns-clause-check : goal.returns-clause-check
returns-clause-check c =
    take_at c.check.new.check _ c.args.size.check (omega (arith, c.check.auto.check, length-take-le c.args.size.check c.args.row.now))
    ∙ check_made c.args.size c.args.words.now c.args.low.now c.as_slice.result.now c.check.new.check c.args.b c.requires.low c.requires.room
    (c.as_slice.ensures.value ∙ c.block_of-block.ensures.block) c.check.ensures.check
