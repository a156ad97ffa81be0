use Rattle.std.proofs.Common.{refl}
use Rattle.vp_esc.proofs.Bytes.{three}
use Rattle.vp_esc.proofs.Columns.{land_columns}
use Rattle.vp_esc.proofs.Kept.{lands_giving}
use Rattle.vp_esc.proofs.reader.EscReader.columns_head.Goals as goal

pub returns : goal.returns
returns c rest begun =
    rw (c.columns_phase-self.ensures, c.word-count.ensures, c.column_mode_of-mode.ensures, c.as_slice-args.ensures.value)
    (lands_giving _ _ (land_columns c.args.self.now _ _ _ _ rest c.clear.new.self begun (three _ c.requires) refl c.clear.ensures))
