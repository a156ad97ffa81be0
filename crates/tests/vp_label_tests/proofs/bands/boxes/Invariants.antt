use Rattle.std.proofs.Common.{◌≡◌, []}
use Rattle.std.specs.List.{All}
use Rattle.vp_field.specs.Fields.{IsKept}
use Rattle.vp_field.specs.Standing.{IsNear}
use Rattle.vp_format.specs.declared.field.Field.{Field}
use Rattle.vp_label_tests.proofs.bands.boxes.Given as goal

abbrev pub invariant-loop-one : goal.invariant-loop-one
invariant-loop-one l = record {
  stored : l.format.stored ≡ [];
  kept : All (IsKept []) l.format.fields.items;
  near : All (λ (f : Field). IsNear f.left f.top) l.format.fields.items;
}
