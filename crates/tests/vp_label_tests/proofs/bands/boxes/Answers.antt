use Rattle.std.proofs.Common.{[], ◌∙◌}
use Rattle.std.proofs.lemmas.List.Elements.{All-push}
use Rattle.vp_field.specs.Fields.{IsKept}
use Rattle.vp_field.specs.Standing.{IsNear}
use Rattle.vp_format.specs.declared.field.Field.{Field}
use Rattle.vp_label_tests.proofs.bands.boxes.Goals as goal

pub loop-one-preserved : goal.loop-one-preserved
loop-one-preserved c =
    let done = c.loop-one.invariant in
    record {
      stored = c.close.ensures.stored ∙ done.stored;
      kept = rw c.in_ok-close.ensures.fields (All-push (IsKept []) c.loop-one.format.fields.items c.boxed.result done.kept (c.boxed.ensures.kept []));
      near = rw c.in_ok-close.ensures.fields (All-push (λ (f : Field). IsNear f.left f.top) c.loop-one.format.fields.items c.boxed.result done.near c.boxed.ensures.near);
    }
