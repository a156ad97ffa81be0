use Rattle.std.proofs.Common.{◌∙◌, arith, refl, ap}
use Rattle.vp_format.specs.declared.reading.Codes.{Codes}
use Rattle.vp_format.proofs.Marks.{resumed_cursor}
use Rattle.vp_format.proofs.rows.RunRows.resume.Goals as goal

pub invariant_of-result : goal.invariant_of-result
invariant_of-result c =
    let bytes = ap (λ (b : Codes). b.bytes.now) c.go_to.ensures ∙ c.next_row.ensures.advanced.bytes ∙ c.new-bytes.ensures.bytes in
    let read = ap (λ (b : Codes). b.read) c.go_to.ensures in
    resumed_cursor _ c.args.codes.now c.new-bytes.result.bytes.now c.next_row.result c.next_row.new.codes.at _ bytes c.new-bytes.ensures.bytes c.requires.some c.requires.short c.requires.mark
    c.next_row.ensures.read (omega (arith, read, c.next_row.ensures.advanced.read, c.new-bytes.ensures.at, c.new-bytes.ensures.read)) (ap (λ (b : Codes). b.at) c.go_to.ensures) refl refl refl
