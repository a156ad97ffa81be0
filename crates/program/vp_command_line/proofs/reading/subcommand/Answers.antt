use Rattle.vp_command_line.proofs.Matches.{together}
use Rattle.vp_command_line.proofs.reading.subcommand.Goals as goal

pub returns : goal.returns
returns c = together _ _ _ _ _ c.subcommand.result c.subcommand.ensures.name c.subcommand.ensures.rows
