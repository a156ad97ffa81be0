use Rattle.std.proofs.Common.{List, ℕ, ◌++◌, ap, ◌∙◌}
use Rattle.vp_png.specs.Zlib.{four_bytes}
use Rattle.vp_png.specs.File.{head, header, chunk, signature, ihdr, phys, density}
use Rattle.vp_png.proofs.Files.{nothing}
use Rattle.vp_png.proofs.png.push_head.Goals as goal

pub returns : goal.returns
unfolding head four_bytes
returns c =
    let all = c.args.waiting.now.items in
    c.push_chunk-2.ensures.items
    ∙ ap (λ (l : List ℕ). l ++ chunk phys density) (c.push_chunk.ensures.items
    ∙ ap (λ (l : List ℕ). c.push.new.waiting.items ++ chunk ihdr l) c.header.ensures
    ∙ ap (λ (l : List ℕ). l ++ chunk ihdr (header c.args.width c.args.height)) (c.push.ensures.items ∙ ap (λ (l : List ℕ). l ++ signature) (nothing all c.requires)))
