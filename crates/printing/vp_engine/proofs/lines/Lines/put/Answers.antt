use Rattle.std.proofs.Common.{drop, sym, ap, ◌∙◌}
use Rattle.std.proofs.lemmas.List.{drop-drop}
use Rattle.vp_engine.specs.Lines.{Listed}
use Rattle.vp_engine.proofs.lines.Lines.put.Goals as goal

pub returns-clause-rest : goal.returns-clause-rest
returns-clause-rest c =
    sym (drop-drop c.min-n.result c.self.inside.at c.self.inside.text.items)
    ∙ ap (λ (l : Listed). drop c.min-n.result l.pending) c.self.view_is
