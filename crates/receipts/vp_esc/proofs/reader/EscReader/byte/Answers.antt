use Rattle.vp_esc.specs.declared.reader.Data.TheVariants as kinds
use Rattle.vp_esc.proofs.Bytes.{bytes_step}
use Rattle.vp_esc.proofs.Kept.{advances_giving}
use Rattle.vp_esc.proofs.reader.EscReader.byte.Goals as goal

pub returns-in-Skipped : goal.returns-in-Skipped
returns-in-Skipped c rest hand =
    rw (c.bytes_phase-self.ensures, c.saturating_sub.ensures, c.in-Skipped.is)
    (bytes_step c.args.self.now kinds.Skipped c.args.left c.args.byte rest (rw c.in-Skipped.is at hand))

pub returns-in-Raster : goal.returns-in-Raster
returns-in-Raster c rest hand =
    rw (c.bytes_phase-self.ensures, c.saturating_sub.ensures, c.in-Raster.is)
    (advances_giving _ _ (bytes_step c.args.self.now kinds.Raster c.args.left c.args.byte rest (rw c.in-Raster.is at hand)))

pub returns-in-Columns : goal.returns-in-Columns
returns-in-Columns c rest hand =
    rw (c.bytes_phase-self.ensures, c.saturating_sub.ensures, c.in-Columns.is)
    (advances_giving _ _ (bytes_step c.args.self.now kinds.Columns c.args.left c.args.byte rest (rw c.in-Columns.is at hand)))

pub returns-in-Stored : goal.returns-in-Stored
returns-in-Stored c rest hand =
    rw (c.bytes_phase-self.ensures, c.saturating_sub.ensures, c.in-Stored.is)
    (advances_giving _ _ (bytes_step c.args.self.now kinds.Stored c.args.left c.args.byte rest (rw c.in-Stored.is at hand)))
