use Rattle.std.proofs.Common.{◌≡◌, ◌∙◌, ap, rules}
use Rattle.vp_esc.specs.declared.reader.Data.TheVariants as kinds
use Rattle.vp_esc.specs.declared.reader.Phase.TheVariants as phases
use Rattle.vp_esc.proofs.Bytes.{raster_step}
use Rattle.vp_esc.proofs.Fronts.{alone_between}
use Rattle.vp_esc.proofs.Kept.{advances_giving}
use Rattle.vp_esc.proofs.reader.EscReader.event.Goals as goal

pub returns-in-Bytes-Raster-default : goal.returns-in-Bytes-Raster-default
returns-in-Bytes-Raster-default c rest stands =
    let left = c.in-Bytes-Raster-default.left in
    let kind : c.in-Bytes-Raster-default.kind ≡ kinds.Raster = rw c.in-Bytes-Raster-default.is at c.in-Bytes-Raster-default.kind-is in
    rw (c.bytes_phase-self.ensures, c.saturating_sub.ensures)
    (advances_giving _ _ (raster_step c.args.self.now left c.args.byte rest (c.in-Bytes-Raster-default.is ∙ ap (λ k. phases.Bytes k left) kind) stands))

pub returns-then-is_none : goal.returns-then-is_none
returns-then-is_none c rest stands =
    advances_giving c.args.self.now c.single-self.result
    (alone_between c.args.byte c.single-self.result c.args.self.now rest (search rules) c.single-self.ensures c.in-Ground.is stands)
