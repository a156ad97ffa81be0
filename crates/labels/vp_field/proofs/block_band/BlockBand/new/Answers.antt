use Rattle.std.proofs.Common.{◌∙◌, w64}
use Rattle.std.proofs.lemmas.Int.{to_z-of_z}
use Rattle.vp_field.proofs.block_band.BlockBand.new.Goals as goal

pub returns-clause-some : goal.returns-clause-some
returns-clause-some g c = λ k x l m h e. c.drawn_rows.ensures.some k x l m ((rw (to_z-of_z w64 c.args.at c.ranges.at) at c.drawn_rows.ensures.drawn) k x l m h ∙ e)
