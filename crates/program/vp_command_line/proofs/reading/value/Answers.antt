use Rattle.std.proofs.Common.{◌∙◌}
use Rattle.clap.specs.Words.{found_of}
use Rattle.vp_command_line.proofs.Matches.{first_in_rows}
use Rattle.vp_command_line.proofs.reading.value.Goals as goal

pub returns : goal.returns
returns c = c.get_str.ensures ∙ first_in_rows (found_of c.args.words.now) c.args.name.now
