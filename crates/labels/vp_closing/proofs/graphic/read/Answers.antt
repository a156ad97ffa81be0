use Rattle.std.proofs.Common.{◌≡◌, ap, ◌∙◌, refl}
use Rattle.vp_format.specs.Pictures.{Picture, passing}
use Rattle.vp_field.specs.Contents.{picture_of}
use Rattle.vp_closing.proofs.Reading.{all_passed}
use Rattle.vp_closing.proofs.graphic.read.Goals as goal

pub returns : goal.returns
returns c =
    let p : Picture = record { coding = c.args.picture.coding; codes = c.bytes_of-codes.result.now; row_bytes = c.from-row_bytes.result; rows = c.args.picture.rows } in
    let same : p ≡ picture_of c.args.stored.now c.args.picture = rw (c.bytes_of-codes.ensures, c.from-row_bytes.ensures) refl in
    all_passed (picture_of c.args.stored.now c.args.picture) c.check.result
    (c.check.ensures ∙ ap (λ (q : Picture). passing q 0 c.args.picture.rows) same)
