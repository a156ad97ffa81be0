use Rattle.std.proofs.Common.{ℕ, ◌++◌, length, arith, subst}
use Rattle.vp_png.specs.Bits.{bits_of}
use Rattle.vp_png.specs.Kept.{bits_in, padding, Packs}
use Rattle.vp_png.proofs.LowBits.{whole_bytes}
use Rattle.vp_png.proofs.Packing.{ended}
use Rattle.vp_png.proofs.packer.Packer.finish.Goals as goal

pub returns-clause-packed : goal.returns-clause-packed
returns-clause-packed c = λ gone packed h sums.
    let s = c.args.self.now in
    let t = c.close.new.self in
    let k = subst (λ (r : ℕ). Packs (bits_of gone ++ bits_in t.bits) (length s.lines.line.items) r packed) c.close.ensures.running (c.close.ensures.packs (bits_of gone) packed h.packs) in
    ended gone (bits_in t.bits) (bits_in c.put_symbol.new.bits) (bits_in c.pad.new.self) (bits_in c.push_number.new.self) c.push_number.new.self.bytes.items
    (padding c.put_symbol.new.bits) c.args.check (length s.lines.line.items) packed k (omega arith) sums
    c.put_symbol.ensures.bits c.pad.ensures.bits c.push_number.ensures.bits
    (whole_bytes c.push_number.new.self (c.push_number.ensures.whole c.pad.ensures.whole))
