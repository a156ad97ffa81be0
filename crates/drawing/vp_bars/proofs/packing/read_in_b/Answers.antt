use Rattle.std.proofs.Common.{arith, sym, ◌∙◌}
use Rattle.std.proofs.lemmas.Result.{err_from_is_err_and}
use Rattle.vp_bars.proofs.Packed.{packed_byte, packed_run}
use Rattle.vp_bars.proofs.packing.read_in_b.Goals as goal

pub returns-then-begins_run-clause-value : goal.returns-then-begins_run-clause-value
returns-then-begins_run-clause-value c = grind (arith, packed_run)

pub returns-clause-value : goal.returns-clause-value
returns-clause-value c = grind (arith, packed_byte)

pub returns-in_err-rest-clause-refused : goal.returns-in_err-rest-clause-refused
returns-in_err-rest-clause-refused c =
    let e = err_from_is_err_and c.from_residual.result c.from_residual.ensures.1 in
    rw (e.1, e.2) (λ set n. packed_byte set n _ c.requires.some (sym c.if-begins_run.ensures) ∙ c.in_err-rest.ensures.refused _)
