use Rattle.std.proofs.Common.{ap, sym, ◌∙◌, arith, length}
use Rattle.vp_output.specs.Places.{advanced, pending_if}
use Rattle.vp_output.proofs.Parts.{pending_on}
use Rattle.vp_output.proofs.part.put_part.Goals as goal

pub returns-clause-rest : goal.returns-clause-rest
returns-clause-rest c = λ t rows long.
    let p = c.args.place in
    let n = c.copy_from-count.result in
    let len = length c.args.line.now in
    ap (pending_if t) (c.advanced.ensures ∙ ap (λ k. advanced k len n p) (sym rows)) ∙ pending_on t p len n long (omega (arith, c.copy_from-count.ensures.count, c.requires.within))
