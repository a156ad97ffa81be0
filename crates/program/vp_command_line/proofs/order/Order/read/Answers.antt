use Rattle.std.proofs.Common.{map}
use Rattle.vp_command_line.proofs.Program.{any_choices, without_memory}
use Rattle.vp_command_line.proofs.order.Order.read.Goals as goal

pub returns-in_err-command : goal.returns-in_err-command
returns-in_err-command g c =
    (any_choices, without_memory any_choices (map g.S.AsStr.text c.args.words.now) c.from_residual.result c.from_residual.ensures.1)

pub returns : goal.returns
returns g c = (c.in_ok-command.ensures.0, c.order_of.ensures c.in_ok-command.ensures.0 c.in_ok-command.ensures.1)
