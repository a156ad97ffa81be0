use Rattle.std.proofs.Common.{ℕ, ◌++◌, ap, ◌∙◌, length}
use Rattle.vp_png.specs.Zlib.{four_bytes}
use Rattle.vp_png.specs.Crc.{crc}
use Rattle.vp_png.specs.File.{chunk}
use Rattle.vp_png.proofs.Files.{four_pieces}
use Rattle.vp_png.proofs.png.push_chunk.Goals as goal

pub returns-clause-items : goal.returns-clause-items
unfolding chunk
returns-clause-items c =
    let bytes = c.args.bytes.now in
    let kind = c.args.kind.now in
    four_pieces c.args.waiting.now.items (four_bytes (length bytes)) kind bytes (four_bytes (crc (kind ++ bytes)))
    c.push_number.new.waiting.items c.push.new.waiting.items c.push-2.new.waiting.items c.push_number-2.new.waiting.items
    c.push_number.ensures.items c.push.ensures.items c.push-2.ensures.items
    (c.push_number-2.ensures.items ∙ ap (λ (n : ℕ). c.push-2.new.waiting.items ++ four_bytes n) c.crc.ensures)
