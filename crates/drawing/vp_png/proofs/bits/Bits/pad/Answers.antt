use Rattle.std.proofs.Common.{◌≡◌, ℕ, ◌-◌, ◌%◌, ◌++◌, List, ap, ◌∙◌, arith, replicate}
use Rattle.vp_png.specs.Bits.{low_bits}
use Rattle.vp_png.specs.Kept.{bits_in}
use Rattle.vp_png.proofs.LowBits.{length_low, long_more, zeros}
use Rattle.vp_png.proofs.bits.Bits.pad.Goals as goal

pub returns-then-self-gt0-clause-bits : goal.returns-then-self-gt0-clause-bits
returns-then-self-gt0-clause-bits c =
    let s = c.args.self.now in
    let e : 8 - s.count ≡ (8 - s.count) % 8 = omega (arith, s.few) in
    c.push.ensures.bits ∙ ap (λ (l : List ℕ). bits_in s ++ l) (zeros (8 - s.count)) ∙ ap (λ (n : ℕ). bits_in s ++ replicate n 0) e

pub returns-then-self-gt0-clause-whole : goal.returns-then-self-gt0-clause-whole
returns-then-self-gt0-clause-whole c =
    let s = c.args.self.now in
    let t = c.push.new.self in
    omega (arith, long_more s t (low_bits (8 - s.count) 0) c.push.ensures.bits, length_low (8 - s.count) 0, s.few, t.few)
