use Rattle.std.proofs.Common.{◌∙◌, ◌^◌, ◌-◌, ◌/◌, ap, sym, arith, ℕ, Ok, length}
use Rattle.std.proofs.Math.Nat.{mod-lt}
use Rattle.std.proofs.lemmas.Nat.{pow_pos}
use Rattle.vp_inflate.specs.Bits.{bits, number_at}
use Rattle.vp_inflate.proofs.BitWords.{length_bits, within_drop, number_short, number_held, mask}
use Rattle.vp_inflate.proofs.held.Held.number.Goals as goal

pub returns-then-self-n-clause-value : goal.returns-then-self-n-clause-value
returns-then-self-n-clause-value c =
    sym (number_short c.args.n c.self.inside.count c.self.inside.hold c.if-self-n.true) ∙ ap (number_at c.args.n) c.self.view_is

pub invariant_of-result : goal.invariant_of-result
invariant_of-result c =
    let s = c.self.inside in
    record { within = within_drop c.args.n s.count s.hold c.self.invariant.within c.if-self-n.false; few = omega (arith, c.self.invariant.few) }

pub returns-clause-value : goal.returns-clause-value
returns-clause-value c =
    let s = c.self.inside in
    let n = c.args.n in
    ap (λ (k : ℕ). Ok (k, bits (s.count - n) (s.hold / 2 ^ n))) (mask s.hold n (omega (arith, c.requires)))
    ∙ sym (number_held n s.count s.hold c.if-self-n.false) ∙ ap (number_at n) c.self.view_is

pub returns-clause-small : goal.returns-clause-small
returns-clause-small c =
    let s = c.self.inside in
    let m = mask s.hold c.args.n (omega (arith, c.requires)) in
    let p = mod-lt s.hold {m = 2 ^ c.args.n} (pow_pos c.args.n) in
    omega (arith, m, p)

pub returns-clause-used : goal.returns-clause-used
returns-clause-used c =
    let s = c.self.inside in
    omega (arith, length_bits (s.count - c.args.n) (s.hold / 2 ^ c.args.n), length_bits s.count s.hold, ap length c.self.view_is, c.if-self-n.false)
