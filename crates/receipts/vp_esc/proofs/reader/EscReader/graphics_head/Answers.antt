use Rattle.std.proofs.Common.{◌∷◌, refl, ap, ◌∙◌}
use Rattle.vp_esc.proofs.Bytes.{five, land_graphics}
use Rattle.vp_esc.proofs.Kept.{lands_item, without_effect}
use Rattle.vp_esc.proofs.reader.EscReader.graphics_head.Goals as goal

pub returns : goal.returns
returns c rest begun =
    let bytes = c.unused.ensures ∙ ap (λ xs. c.args.self.now.name ∷ xs) c.as_slice-args.ensures.value in
    rw (c.bytes_phase-self.ensures, c.word.ensures, c.word-2.ensures, c.as_slice-args.ensures.value)
    (lands_item _ _ _ (without_effect c.args.self.now.lead c.unused.result c.args.self.now.name c.args.self.now.kept.items bytes)
    (land_graphics c.args.self.now _ _ _ _ _ _ rest begun (five _ c.requires) refl))
