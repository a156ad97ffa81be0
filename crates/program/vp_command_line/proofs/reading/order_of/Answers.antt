use Rattle.std.proofs.Common.{ap, inr, ◌∙◌, option_map, map}
use Rattle.vp_command_line.specs.Asked.{asked}
use Rattle.vp_command_line.proofs.Program.{passed_on}
use Rattle.vp_command_line.proofs.reading.order_of.Goals as goal

pub returns-in_err-order : goal.returns-in_err-order
returns-in_err-order c = λ c' choices is. passed_on choices (map c.S.AsStr.text c'.args.words.now) _ c'.from_residual.result (c'.in_err-order.ensures choices is) c'.from_residual.ensures.1

pub returns-in-Some : goal.returns-in-Some
returns-in-Some c = λ c' choices is.
    let read = c'.in_ok-order.ensures choices is in (read.0, read.1 ∙ ap (option_map asked) c'.in-Some.is)

pub returns-in_ok-error-in-None : goal.returns-in_ok-error-in-None
returns-in_ok-error-in-None c = λ c' choices is.
    let read = c'.in_ok-order.ensures choices is in
    inr (c'.in_ok-error-in-None.ensures.kind, read.1 ∙ ap (option_map asked) c'.in-None.is)
