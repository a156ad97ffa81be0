use Rattle.vp_reed_solomon.proofs.FieldLaws.{difference_bits, difference_element}
use Rattle.std.proofs.Common.{subst, sym, ◌<◌, ℕ}
use Rattle.vp_reed_solomon.specs.Fields.{order}
use Rattle.vp_reed_solomon.proofs.field.Field.difference.Goals as goal

pub returns-in_default : goal.returns-in_default
returns-in_default c =
    let e = difference_bits c.args.self c.args.a c.args.b c.in_default.not-Gf929 in
    record { difference = e; element = subst (λ (n : ℕ). n < order c.args.self) (sym e) (difference_element c.args.self c.args.a c.args.b c.requires.a c.requires.b) }
