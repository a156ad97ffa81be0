use Rattle.std.proofs.Common.{refl}
use Rattle.vp_code_tables.proofs.Steps.{ended_as}
use Rattle.vp_code_tables.proofs.Decoding.{by_character, byte_steps}
use Rattle.vp_code_tables.proofs.decoder.next.Goals as goal

pub returns-in-Bytes : goal.returns-in-Bytes
returns-in-Bytes c =
    ended_as c.args.encoding c.args.begun c.args.byte c.ended.result (by_character c.byte_character.result)
    (by_character c.byte_character.result) c.ended.ensures refl
    (byte_steps c.args.encoding c.in-Bytes.table c.in-Bytes.set c.args.begun c.args.byte c.byte_character.result
    c.in-Bytes.is c.requires c.byte_character.ensures)
