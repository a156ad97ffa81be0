use Rattle.vp_code_tables.proofs.Decoding.{ends}
use Rattle.vp_code_tables.proofs.decoder.Decoder.finish.Goals as goal

pub returns-clause-all : goal.returns-clause-all
returns-clause-all c = ends c.args.self.now c.left-given.result c.left-given.ensures
