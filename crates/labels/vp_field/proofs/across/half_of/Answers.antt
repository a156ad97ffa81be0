use Rattle.vp_field.proofs.Columns.{half_of_bytes}
use Rattle.vp_field.proofs.across.half_of.Goals as goal

pub returns : goal.returns
returns c = λ x h. half_of_bytes c.args.line.now _ x h c.told-line c.fits-line c.from_be_bytes.ensures
