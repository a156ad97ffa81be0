use Rattle.std.proofs.Common.{◌∙◌, refl, sym, ap, length}
use Rattle.vp_format.specs.declared.rows.RunMark.{RunMark}
use Rattle.vp_format.proofs.Marks.{first_cursor}
use Rattle.vp_format.proofs.rows.RunRows.new.Goals as goal

pub invariant_of-result : goal.invariant_of-result
invariant_of-result c = first_cursor _ c.requires.some c.requires.short c.new.ensures.at c.new.ensures.read refl refl refl
    (c.first.ensures ∙ ap (λ n. let m : RunMark = record { next = 0; here = record { left = 0; digit = 0; at = 0 }; before = record { left = 0; digit = 0; at = n } } in m) (sym (ap length c.new.ensures.bytes))) refl
