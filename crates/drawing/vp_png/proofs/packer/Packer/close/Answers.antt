use Rattle.std.proofs.Common.{◌<◌, length, arith}
use Rattle.vp_png.specs.Kept.{bits_in}
use Rattle.vp_png.proofs.Packing.{part_written}
use Rattle.vp_png.proofs.packer.Packer.close.Goals as goal

pub returns-clause-packs : goal.returns-clause-packs
returns-clause-packs c = λ gone before h.
    let s = c.args.self.now in
    part_written gone (bits_in s.bits) (bits_in c.put_token.new.bits) (length s.lines.line.items) c.len-stride.result s.running 0 s.running before
    c.len-stride.ensures.value (omega arith) c.put_token.ensures.bits h (omega arith) (omega arith) (λ (some : 0 < 0). absurd (omega arith))
