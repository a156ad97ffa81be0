use Rattle.std.proofs.Common.{◌∙◌, ap, arith, ◌/◌, ◌%◌, ◌+◌}
use Rattle.std.proofs.lemmas.List.{take_rest}
use Rattle.vp_dots.specs.Dots.{dot}
use Rattle.vp_dots.proofs.Rows.{dot_past}
use Rattle.vp_dots.proofs.Paints.{painted_same, painted_none}
use Rattle.vp_dots.proofs.Parts.{dot-drop}
use Rattle.vp_dots.proofs.kernel.paint_far_left.Goals as goal

pub returns-then-q-source : goal.returns-then-q-source
returns-then-q-source c = painted_same _ _ _ _ _ (λ d l. ap (λ s. dot s (d + c.args.far % 8)) (take_rest c.args.source.now (c.args.far / 8)) ∙ dot-drop c.args.source.now (c.args.far / 8) (d + c.args.far % 8) ∙ ap (dot c.args.source.now) (omega arith)) c.paint_left.ensures

pub returns-else-q-source : goal.returns-else-q-source
returns-else-q-source c = painted_none _ _ _ (λ d l. dot_past c.args.source.now _ (omega arith))
