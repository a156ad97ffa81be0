use Rattle.std.proofs.Common.{◌∷◌, ap, ◌∙◌}
use Rattle.vp_esc.proofs.Bytes.{land_past}
use Rattle.vp_esc.proofs.Kept.{lands_item, without_effect}
use Rattle.vp_esc.proofs.reader.EscReader.past_head.Goals as goal

pub returns : goal.returns
returns c rest begun =
    let bytes = c.unused.ensures ∙ ap (λ xs. c.args.self.now.name ∷ xs) c.as_slice-args.ensures.value in
    rw c.bytes_phase-self.ensures
    (lands_item _ _ _ (without_effect c.args.self.now.lead c.unused.result c.args.self.now.name c.args.self.now.kept.items bytes)
    (land_past c.args.self.now c.args.past _ rest begun c.requires (rw c.as_slice-args.ensures.value at c.data_len.ensures)))
