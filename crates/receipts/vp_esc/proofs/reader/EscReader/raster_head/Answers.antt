use Rattle.std.proofs.Common.{refl}
use Rattle.vp_esc.proofs.Bytes.{six, land_raster}
use Rattle.vp_esc.proofs.Kept.{lands_giving}
use Rattle.vp_esc.proofs.reader.EscReader.raster_head.Goals as goal

pub returns : goal.returns
returns c rest begun =
    rw (c.bytes_phase-self.ensures, c.byte_count.ensures, c.raster_kind.ensures, c.spelled.ensures, c.word-bytes.ensures, c.word-rows.ensures, c.scale_of-scale.ensures, c.as_slice-args.ensures.value)
    (lands_giving _ _ (land_raster c.args.self.now _ _ _ _ _ _ _ rest begun (six _ c.requires) refl))
