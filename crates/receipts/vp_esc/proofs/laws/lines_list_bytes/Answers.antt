use Rattle.vp_esc.proofs.UnitLines.{byte_line, command_lines}
use Rattle.vp_esc.proofs.laws.lines_list_bytes.Goals as goal

pub returns-clause-byte : goal.returns-clause-byte
returns-clause-byte c = byte_line

pub returns-clause-command : goal.returns-clause-command
returns-clause-command c = command_lines
