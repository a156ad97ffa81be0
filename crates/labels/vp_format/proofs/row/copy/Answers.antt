use Rattle.std.proofs.Common.{refl, length}
use Rattle.vp_format.proofs.Bytes.{bytes_decoded}
use Rattle.vp_format.proofs.row.copy.Goals as goal

pub returns-clause-decoded : goal.returns-clause-decoded
returns-clause-decoded c = bytes_decoded c.args.codes.now.bytes.now c.args.row.now c.fill.new.self c.up_to-part.result.now c.copy_from_slice.new.self (length c.args.row.now) c.args.codes.now.at c.up_to-part.new.self.at c.ended.result
    refl c.requires.reading.at c.up_to-part.ensures.bytes c.copy_from_slice.ensures.after (c.fill.ensures.after (λ y h. h)) c.up_to-part.ensures.at c.ended.ensures
