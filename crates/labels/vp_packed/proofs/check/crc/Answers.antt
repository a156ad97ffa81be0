use Rattle.std.proofs.Common.{ℕ, ◌+◌, ◌*◌, drop, bit_xor, ap, sym, ◌∙◌, arith}
use Rattle.vp_packed.specs.Check.{crc_bits, crc_behind}
use Rattle.vp_packed.proofs.Crcs.{behind_more, behind_all}
use Rattle.vp_packed.proofs.check.crc.Goals as goal

pub loop-sign-preserved : goal.loop-sign-preserved
loop-sign-preserved c =
    let l = c.loop-sign in
    let rest = drop (l.sign-index + 1) c.args.signs.now in
    ap (λ (n : ℕ). crc_behind n rest) (c.byte_on-c.ensures ∙ ap (λ (n : ℕ). crc_bits 8 (bit_xor l.c (n * 256))) c.from.ensures)
    ∙ behind_more l.c c.args.signs.now l.sign-index (omega arith) ∙ l.invariant

pub returns : goal.returns
returns c = sym (behind_all c.loop-sign.c c.args.signs.now c.loop-sign.sign-index (omega arith)) ∙ c.loop-sign.invariant
