use Rattle.std.proofs.Common.{ℕ, ◌+◌, drop, bit_xor, ap, sym, ◌∙◌, arith}
use Rattle.vp_png.specs.Crc.{crc_bits, crc_behind}
use Rattle.vp_png.proofs.Crcs.{behind_more, behind_all}
use Rattle.vp_png.proofs.crc.behind.Goals as goal

pub loop-byte-preserved : goal.loop-byte-preserved
loop-byte-preserved c =
    let l = c.loop-byte in
    let rest = drop (l.byte-index + 1) c.args.bytes.now in
    ap (λ (n : ℕ). crc_behind n rest) (c.behind_four-c.ensures ∙ ap (crc_bits 4) (c.behind_four.ensures ∙ ap (λ (n : ℕ). crc_bits 4 (bit_xor l.c n)) c.from.ensures))
    ∙ behind_more l.c c.args.bytes.now l.byte-index (omega arith) ∙ l.invariant

pub returns : goal.returns
returns c = sym (behind_all c.loop-byte.c c.args.bytes.now c.loop-byte.byte-index (omega arith)) ∙ c.loop-byte.invariant
