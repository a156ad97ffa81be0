use Rattle.std.proofs.Common.{◌≡◌, length, rules}
use Rattle.vp_esc.specs.declared.reader.Data.TheVariants as kinds
use Rattle.vp_esc.specs.declared.reader.Phase.TheVariants as phases
use Rattle.vp_esc.proofs.Lefts.{raster_count}
use Rattle.vp_esc.proofs.reader.EscReader.take_raster.Goals as goal

pub returns-in-Bytes-Raster-default-clause-count : goal.returns-in-Bytes-Raster-default-clause-count
returns-in-Bytes-Raster-default-clause-count c reading bytes s =
    let phase : c.args.self.now.phase ≡ phases.Bytes kinds.Raster c.in-Bytes-Raster-default.left = search rules in
    raster_count reading c.args.self.now bytes _ _ s (rw phase c.take_bytes.ensures.count)

pub returns-in_default-clause-count : goal.returns-in_default-clause-count
returns-in_default-clause-count c reading bytes s = raster_count reading c.args.self.now bytes (length c.args.input.now) 0 s (search rules)

pub returns-in_default-2-clause-count : goal.returns-in_default-2-clause-count
returns-in_default-2-clause-count c reading bytes s = raster_count reading c.args.self.now bytes (length c.args.input.now) 0 s (search rules)
