use Rattle.std.proofs.Common.{ℕ, List, [], length, ap, sym, subst}
use Rattle.vp_png.specs.Kept.{bits_in, shown, Packs}
use Rattle.vp_png.proofs.Packing.{packs_none, start_bits}
use Rattle.vp_png.proofs.packer.Packer.new.Goals as goal

pub returns-clause-start : goal.returns-clause-start
returns-clause-start c =
    let bits = start_bits (bits_in c.new-bits.result) (bits_in c.push.new.self) (bits_in c.push-2.new.self) (bits_in c.push-3.new.self)
    c.new-bits.ensures c.push.ensures.bits c.push-2.ensures.bits c.push-3.ensures.bits in
    record {
      packs = subst (λ (l : List ℕ). Packs l (length c.new.result.line.items) 0 []) (sym bits) (packs_none (length c.new.result.line.items));
      front = [];
      last = ap shown (sym c.new.ensures.line);
    }
