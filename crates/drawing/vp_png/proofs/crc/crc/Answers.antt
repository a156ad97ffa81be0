use Rattle.std.proofs.Common.{ℕ, bit_xor, ap, sym, ◌∙◌}
use Rattle.vp_png.specs.Crc.{crc_behind, crc}
use Rattle.vp_png.proofs.Crcs.{behind_both}
use Rattle.vp_png.proofs.crc.crc.Goals as goal

pub returns : goal.returns
unfolding crc
returns c =
    ap (λ (n : ℕ). bit_xor n 0xffffffff) (c.behind-2.ensures ∙ ap (λ (n : ℕ). crc_behind n c.args.bytes.now) c.behind.ensures
    ∙ sym (behind_both 0xffffffff c.args.kind.now c.args.bytes.now))
