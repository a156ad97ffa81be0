use Rattle.std.proofs.Common.{◌∙◌, sym, arith}
use Rattle.vp_dots.proofs.Rows.{same_row}
use Rattle.vp_dots.proofs.kernel.painted_law.Goals as goal

pub returns : goal.returns
returns c = λ op ink row p q. same_row c.args.one.now c.args.other.now (p.length_is ∙ sym q.length_is) (λ i. omega (arith, c.type_inv.one i)) (λ i. omega (arith, c.type_inv.other i))
    (λ d l. let m = p.length_is in p.dots_are d (omega arith) ∙ sym (q.dots_are d (omega arith)))
