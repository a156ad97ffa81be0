use Rattle.std.proofs.Common.{refl, ◌≡◌, []}
use Rattle.std.proofs.lemmas.Result.{IfOk-weaker}
use Rattle.clap.specs.Words.{App, app_of, with_subcommand}
use Rattle.vp_command_line.specs.Words.{join, label, list, receipt, top}
use Rattle.vp_command_line.proofs.Program.{of_ok, with_shape}
use Rattle.vp_command_line.proofs.grammar.program.Goals as goal

pub returns : goal.returns
returns c =
    let r = of_ok _ c.receipt.result _ c.receipt.ensures c.in_ok-command.ensures.1 in
    let l = of_ok _ c.list.result _ c.list.ensures c.in_ok-command-3.ensures.1 in
    let a0 : App = record { top = top; subs = [] } in
    let a1 : App = with_subcommand a0 (receipt r.of) in
    let a2 : App = with_subcommand a1 label in
    let a3 : App = with_subcommand a2 (list l.of) in
    let is_1 : app_of c.in_ok-command.command ≡ a1 =
    with_shape _ _ _ a0 (receipt r.of) c.in_ok-vp.ensures r.is refl c.in_ok-command.ensures.2 in
    let is_2 : app_of c.in_ok-command-2.command ≡ a2 =
    with_shape _ _ _ a1 label is_1 (of_ok _ c.label.result _ c.label.ensures c.in_ok-command-2.ensures.1) refl c.in_ok-command-2.ensures.2 in
    let is_3 : app_of c.in_ok-command-3.command ≡ a3 = with_shape _ _ _ a2 (list l.of) is_2 l.is refl c.in_ok-command-3.ensures.2 in
    IfOk-weaker c.with-4.result _ _ (λ x h. (
      record { widths = r.of; languages = l.of; widths_are = r.values_are; languages_are = l.values_are },
      with_shape _ _ _ a3 join is_3 (of_ok _ c.join.result _ c.join.ensures h.1) refl h.2,
    )) c.with-4.ensures
