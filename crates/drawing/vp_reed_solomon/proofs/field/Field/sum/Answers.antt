use Rattle.vp_reed_solomon.proofs.FieldLaws.{sum_bits, sum_element}
use Rattle.std.proofs.Common.{subst, sym, ◌<◌, ℕ}
use Rattle.vp_reed_solomon.specs.Fields.{order}
use Rattle.vp_reed_solomon.proofs.field.Field.sum.Goals as goal

pub returns-in_default : goal.returns-in_default
returns-in_default c =
    let e = sum_bits c.args.self c.args.a c.args.b c.in_default.not-Gf929 in
    record { sum = e; element = subst (λ (n : ℕ). n < order c.args.self) (sym e) (sum_element c.args.self c.args.a c.args.b c.requires.a c.requires.b) }
