use Rattle.std.proofs.Common.{refl, arith}
use Rattle.std.proofs.lemmas.Bool.{eqb-true}
use Rattle.vp_format.specs.Codes.{code_of}
use Rattle.vp_format.proofs.Plain.{tested, all_digits}
use Rattle.vp_format.proofs.digits.are_digits.Goals as goal

pub returns : goal.returns
unfolding code_of
returns c all k l =
    let bytes = c.args.bytes.now in
    all_digits bytes c.args.at 64 c.requires (omega arith) (tested bytes c.args.at 64 c.requires refl refl) (eqb-true _ 0 all) (λ i. (c.type_inv.bytes i).fits) refl k l
