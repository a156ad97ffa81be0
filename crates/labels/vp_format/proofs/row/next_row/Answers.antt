use Rattle.vp_format.specs.declared.rows.Coding.TheVariants.{RunLength, Binary}
use Rattle.vp_format.proofs.Marks.{front_read, front_decoded, whole_decoded}
use Rattle.vp_format.proofs.row.next_row.Goals as goal

pub returns-in-RunLength-clause-read : goal.returns-in-RunLength-clause-read
returns-in-RunLength-clause-read c =
    rw (c.in-RunLength.is, ← c.requires.at) (front_read RunLength c.args.codes.now.bytes.now c.args.row.now c.decode.new.row _ _ _ c.decode.result c.args.n c.requires.room c.decode.ensures.len c.decode.ensures.read)

pub returns-in-Binary-clause-read : goal.returns-in-Binary-clause-read
returns-in-Binary-clause-read c =
    whole_decoded c.args.coding c.args.codes.now.bytes.now c.args.row.now _ c.args.spot c.copy.result c.args.n c.args.codes.now.at c.copy.new.codes.at c.in-Binary.is c.requires.whole c.requires.at c.copy.ensures.end
    (front_decoded Binary c.args.codes.now.bytes.now c.args.row.now c.copy.new.row _ _ _ c.copy.result c.args.n c.requires.room c.copy.ensures.len c.copy.ensures.decoded)
