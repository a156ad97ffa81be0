use Rattle.std.proofs.Common.{◌∙◌, ◌≤◌, ◌+◌, ◌++◌, ap, sym, arith, List, ℕ, length}
use Rattle.vp_inflate.specs.Bits.{bits}
use Rattle.vp_inflate.proofs.BitWords.{length_bits, bits_more, byte_above, above_within, above_fits}
use Rattle.vp_inflate.proofs.held.Held.push.Goals as goal

pub overflow_shl-self : goal.overflow_shl-self
overflow_shl-self c =
    let s = c.self.inside in
    omega (arith, length_bits s.count s.hold, ap length c.self.view_is, c.requires)

pub overflow_add-self : goal.overflow_add-self
overflow_add-self c =
    let s = c.self.inside in
    let few : s.count ≤ 56 = omega (arith, length_bits s.count s.hold, ap length c.self.view_is, c.requires) in
    let fits = above_fits s.count s.hold c.from.result few c.self.invariant.within (omega arith) in
    omega (arith, fits)

pub invariant_of-self : goal.invariant_of-self
invariant_of-self c =
    let s = c.self.inside in
    let few : s.count ≤ 56 = omega (arith, length_bits s.count s.hold, ap length c.self.view_is, c.requires) in
    let e = byte_above s.count c.from.result few (omega arith) in
    record { within = omega (arith, e, above_within s.count s.hold c.from.result c.self.invariant.within (omega arith)); few = omega arith }

pub returns : goal.returns
returns c =
    let s = c.self.inside in
    let few : s.count ≤ 56 = omega (arith, length_bits s.count s.hold, ap length c.self.view_is, c.requires) in
    ap (λ (k : ℕ). bits (s.count + 8) (s.hold + k)) (byte_above s.count c.from.result few (omega arith))
    ∙ sym (bits_more s.count 8 s.hold c.from.result c.self.invariant.within)
    ∙ ap (λ (l : List ℕ). l ++ bits 8 c.from.result) c.self.view_is
    ∙ ap (λ (b : ℕ). c.args.self.now ++ bits 8 b) c.from.ensures
