use Rattle.std.proofs.Common.{◌+◌, arith}
use Rattle.std.proofs.lemmas.Bool.{eqb-true}
use Rattle.vp_format.proofs.Runs.{fars, runs_found}
use Rattle.vp_format.proofs.Lanes.{others}
use Rattle.vp_format.proofs.counted.are_runs.Goals as goal

pub returns : goal.returns
returns c is k l =
    let bytes = c.args.bytes.now in let at = c.args.at in
    runs_found bytes _ _ _ at c.requires (λ i. (c.type_inv.bytes i).fits) (others bytes at (omega (arith, c.requires))) (fars bytes at (omega (arith, c.requires))) (others bytes (at + 1) (omega (arith, c.requires))) (eqb-true _ _ is) k l
