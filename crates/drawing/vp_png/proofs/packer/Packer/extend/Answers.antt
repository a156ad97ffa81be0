use Rattle.std.proofs.Common.{◌≡◌, ◌+◌, ◌-◌, ◌<◌, min, length, arith, ◌∙◌}
use Rattle.std.proofs.lemmas.Grind.{common_steps}
use Rattle.vp_png.specs.Tokens.{copied}
use Rattle.vp_png.specs.Kept.{bits_in}
use Rattle.vp_png.proofs.Packing.{packs_longer, part_written}
use Rattle.vp_png.proofs.packer.Packer.extend.Goals as goal

pub returns-then-running-le258-clause-packs : goal.returns-then-running-le258-clause-packs
returns-then-running-le258-clause-packs c = λ gone before h.
    packs_longer _ _ c.args.self.now.running c.args.more before h c.requires.running

pub returns-clause-packs : goal.returns-clause-packs
returns-clause-packs c = λ gone before h.
    let s = c.args.self.now in
    let stride = length s.lines.line.items in
    let long = c.min-long.result in
    let least : long ≡ min 258 (s.running + c.args.more - 3) = c.min-long.ensures ∙ grind (arith, common_steps) in
    part_written gone (bits_in s.bits) (bits_in c.put_token.new.bits) stride c.len-stride.result long (s.running + c.args.more - long) (s.running + c.args.more)
    (copied c.args.more stride before) c.len-stride.ensures.value (omega (arith, least)) c.put_token.ensures.bits
    (packs_longer _ _ s.running c.args.more before h c.requires.running) (omega (arith, least)) (omega (arith, least))
    (λ (some : 0 < s.running + c.args.more - long). omega (arith, least))
