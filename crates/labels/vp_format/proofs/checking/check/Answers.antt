use Rattle.std.proofs.Common.{sym, refl}
use Rattle.vp_format.specs.declared.rows.Coding.TheVariants.{Binary}
use Rattle.vp_format.specs.Pictures.{Picture}
use Rattle.vp_format.proofs.Passed.{all_taken}
use Rattle.vp_format.proofs.checking.check.Goals as goal

pub returns-in-Binary : goal.returns-in-Binary
returns-in-Binary c =
    let p : Picture = record { coding = Binary; codes = c.args.codes.now; row_bytes = c.args.row_bytes; rows = c.args.rows } in
    rw c.in-Binary.is (sym (all_taken p (λ y l. c.binary_law.ensures.taken p y refl)))
