use Rattle.std.proofs.Common.{◌≡◌, ap, ◌∙◌, take, arith}
use lib.Lanes.{put_chunk}
use Rattle.std.proofs.lemmas.List.{take_all}
use Rattle.std.proofs.lemmas.Simd.{put_chunk_is}
use Rattle.vp_engine.proofs.offset.write_eight.Goals as goal

pub returns : goal.returns
returns c =
    let bytes = c.args.bytes.now in
    let whole : take 8 bytes ≡ bytes = take_all 8 bytes (omega (arith, c.requires.bytes)) in
    ap (put_chunk c.args.at c.args.output.now) whole
    ∙ rw c.requires.bytes at (put_chunk_is c.args.at c.args.output.now bytes (omega (arith, c.requires.bytes, c.requires.room)))
